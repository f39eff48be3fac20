-- Document 01, "Marked platform positions", and slot 255 of 02, M-106: the table of marks, and how each question is asked of the rules. Assumes nothing.
use Rattle.std.specs.Prelude.{◌≡◌, Bool, cond, not, List, [], ◌∷◌, map, ℕ, zero, suc, ◌-◌, ◌^◌, drop}
use Rattle.std.proofs.Math.Option.{Option, none, some}
use Rattle.wire.specs.Scan.{all}
use Rattle.wire.specs.Checks.{refusal}
use Rattle.tables.specs.Card.{Card, fresh}
use Rattle.tables.specs.Commands.{Command, numbers_of}
use Rattle.tables.specs.Limits.{mr_count}
use Rattle.tables.specs.declared.Registration.{Registration}
use Rattle.rules.specs.Lists.{All}
use Rattle.rules.specs.Touch.{Byte, range}
use Rattle.rules.specs.Permit.{Use, permits_all, place}
use Rattle.rules.specs.Control.{command_checks, command_ack, command_effect}

-- ---- the platform

-- control commands one after another; one that is refused changes nothing
abbrev pub obeyed : Option ℕ → Card → Command → Card
obeyed none c k = command_effect c k
obeyed (some n) c k = c

unfoldable pub after : Card → List Command → Card
after c [] = c
after c (k ∷ ks) = after (obeyed (refusal (command_checks c k)) c k) ks

-- "region PD 0, start 256, length 100, virt 4096, access 7"
abbrev pub region : (start virt : ℕ) → Registration
region s v = record { pd = 0; access = 7; start = s; length = 100; virt = v }

-- a move of queue pair 0 to init, with access flags
abbrev pub flagged : (flags : ℕ) → Command
flagged f = Command.modify_qp (record { qpn = 0; mask = 5; state = 1; pad0 = 0; pad1 = 0; pad2 = 0; dest = 0; flags = f })

-- "Memory 4,096", the domain, a queue pair in it with the access flags 7, and the region
unfoldable pub platform : Card
platform =
    after (fresh 4096)
    (Command.create_pd ∷ Command.create_cq 1 ∷ Command.create_qp (record { pd = 0; kind = 2; signal = 0; scq = 0; rcq = 0 }) ∷
    flagged 7 ∷ Command.register (region 256 4096) ∷ [])

-- it, dropped and registered again
unfoldable pub renewed : Card
renewed = after platform (Command.deregister 0 ∷ Command.register (region 256 4096) ∷ [])

-- n registrations
unfoldable pub registrations : ℕ → List Command
registrations zero = []
registrations (suc n) = Command.register (region 256 4096) ∷ registrations n

-- the region in the slot dropped and registered again, n times
unfoldable pub rounds : (slot n : ℕ) → List Command
rounds s zero = []
rounds s (suc n) = Command.deregister s ∷ Command.register (region 256 4096) ∷ rounds s n

-- every slot is taken, and the one named has the variant 254
unfoldable pub nearly_used : (slot : ℕ) → Card
nearly_used s = after (after platform (registrations (mr_count - 1))) (rounds s 253)

-- the keys that a registration hands out, if it is not refused
abbrev pub keys_of : Card → Option ℕ → Option (List ℕ)
keys_of c none = some (drop 1 (numbers_of (command_ack c (Command.register (region 256 4096)))))
keys_of c (some n) = none

-- those of one that follows once the region in the slot is dropped
abbrev pub next : Card → (slot : ℕ) → Option (List ℕ)
next c s = let d = after c (Command.deregister s ∷ []) in keys_of d (refusal (command_checks d (Command.register (region 256 4096))))

-- ---- questions and results

pub data Question : Type 0 where
  -- so many bytes from the address on, under the key
  bytes : (address count key : ℕ) → Question
  -- one byte, and where it is
  byte : (address key : ℕ) → Question
  -- does the key stand after the region was dropped and registered again
  stands : (key : ℕ) → Question
  -- the keys of a registration in the slot at variant 255, and of the next one there, where all other slots are taken
  last : (slot : ℕ) → Question
  registers : (start virt : ℕ) → Question

pub data Verdict : Type 0 where
  permitted : Verdict
  at : (place : ℕ) → Verdict
  no : Verdict
  -- lkey and rkey of both; 02, M-109: "P9's "next" entries become none"
  keys : (first next : Option (List ℕ)) → Verdict
  done : Verdict
  refused : (number : ℕ) → Verdict
  -- permitted for one use and not for another: the region and the queue pair have every right, so that this never happens
  mixed : Verdict

abbrev pub uses : List Use
uses = Use.local_read ∷ Use.local_write ∷ Use.remote_write ∷ Use.remote_read ∷ []

-- the range is permitted for every use, or for none
abbrev pub verdict : Card → List Byte → Verdict → Verdict
verdict c bs r =
    let tests : List Bool = map (λ u. permits_all c 0 u bs) uses in
    cond (all (λ t. t) tests) r (cond (all not tests) no mixed)

abbrev pub answer : Option ℕ → Verdict
answer none = done
answer (some n) = refused n

abbrev pub ask : Question → Verdict
ask (bytes a n k) = verdict platform (range a k n) permitted
ask (byte a k) = verdict platform (range a k 1) (at (place platform (record { address = a; key = k })))
ask (stands k) = verdict renewed (range 4096 k 1) permitted
ask (last s) = keys (next (nearly_used s) s) (next (after (nearly_used s) (rounds s 1)) s)
ask (registers s v) = answer (refusal (command_checks platform (Command.register (region s v))))

-- ---- the table

pub record Mark : Type 0 where
  pub number : ℕ
  pub question : Question
  pub result : Verdict

abbrev pub mark : ℕ → Question → Verdict → Mark
mark n q r = record { number = n; question = q; result = r }

unfoldable pub table : List Mark
table =
    mark 1 (bytes 4096 100 1) permitted ∷
    mark 2 (bytes 4096 101 1) no ∷
    mark 3 (byte 4195 1) (at 355) ∷
    mark 4 (bytes 4196 1 1) no ∷
    mark 5 (bytes 4096 0 9999) permitted ∷
    mark 6 (bytes (2 ^ 64 - 1) 2 1) no ∷
    mark 7 (bytes 4096 1 2) no ∷
    mark 8 (stands 2) permitted ∷
    mark 8 (stands 1) no ∷
    mark 9 (last 31) (keys (some (8191 ∷ 8191 ∷ [])) none) ∷
    mark 9 (last 255) (keys (some (65535 ∷ 65535 ∷ [])) none) ∷
    mark 10 (registers 3996 4096) done ∷
    mark 10 (registers 3997 4096) (refused 11) ∷
    mark 11 (registers 256 (2 ^ 64 - 101)) done ∷
    mark 11 (registers 256 (2 ^ 64 - 100)) (refused 11) ∷
    []

-- P1 to P11 together: every question of the table has its result
unfoldable pub Marks : Type 0
Marks = All (λ m. ask m.question ≡ m.result) table
