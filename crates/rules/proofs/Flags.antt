-- 02, M-104, "Rights on the queue pair", by computed examples: what a queue pair's access flags become, which numbers modify QP refuses, what
-- the flags open, and the statuses of work requests by them. Assumes nothing.
use mathlib.Core.Path.{◌≡◌, refl}
use mathlib.Core.Bool.{Bool, true, false}
use mathlib.Core.List.{List, [], ◌∷◌, map}
use mathlib.Core.Option.{none, some}
use Prim.Native.Nat.{ℕ}
use Rattle.wire.specs.Checks.{refusal}
use Rattle.wire.specs.Scan.{lowest, lowest_from, any_below, all}
use Rattle.wire.specs.Slots.{upd}
use Rattle.validate.specs.Accept.{pair_ok}
use Rattle.tables.specs.Card.{Card, fresh, with_qp, with_waiting}
use Rattle.tables.specs.Commands.{Command}
use Rattle.tables.specs.declared.Sge.{Sge}
use Rattle.rules.specs.Touch.{range, sge_bytes, sge_total, total, own_bytes, far_bytes}
use Rattle.rules.specs.Permit.{opens, permits_all, permits, lookup, covers}
use Rattle.rules.specs.Control.{command_checks, command_effect}
use Rattle.rules.specs.Send.{run_status, send_status}
use Rattle.rules.specs.Marks.{after, obeyed, flagged, region, uses}

-- the flags 0 to 7 that open each use: "local uses only at the region"
pub opened : map (λ u. map (opens u) (0 ∷ 1 ∷ 2 ∷ 3 ∷ 4 ∷ 5 ∷ 6 ∷ 7 ∷ [])) uses
    ≡ (true ∷ true ∷ true ∷ true ∷ true ∷ true ∷ true ∷ true ∷ [])
    ∷ (true ∷ true ∷ true ∷ true ∷ true ∷ true ∷ true ∷ true ∷ [])
    ∷ (false ∷ false ∷ true ∷ true ∷ false ∷ false ∷ true ∷ true ∷ [])
    ∷ (false ∷ false ∷ false ∷ false ∷ true ∷ true ∷ true ∷ true ∷ [])
    ∷ []
opened = refl

-- ---- modify QP

abbrev modify : (qpn mask state dest flags : ℕ) → Command
modify q m s d f = Command.modify_qp (record { qpn = q; mask = m; state = s; pad0 = 0; pad1 = 0; pad2 = 0; dest = d; flags = f })

abbrev create : Command
create = Command.create_qp (record { pd = 0; kind = 2; signal = 0; scq = 0; rcq = 0 })

-- two queue pairs, the region of the marks, and one that can be read from remotely and not written to, with the key 257
unfoldable pub pairs : Card
pairs =
    after (fresh 4096)
    (Command.create_pd ∷ Command.create_cq 16 ∷ create ∷ create ∷ Command.register (region 256 4096) ∷
    Command.register (record { pd = 0; access = 4; start = 0; length = 100; virt = 4096 }) ∷ [])

-- the flags of queue pair 0 after each of the commands
unfoldable pub flags_along : Card → List Command → List ℕ
flags_along c [] = []
flags_along c (k ∷ ks) = let d = obeyed (refusal (command_checks c k)) c k in (d.qp 0).rights ∷ flags_along d ks

-- set with bit 2 in states 1, 2, 3 and 6, kept and the number ignored without it, 0 after a move to 0 even one with bit 2, and 0 at creation
pub kept : flags_along pairs
    (modify 0 5 1 0 7 ∷ modify 0 32769 2 1 0 ∷ modify 0 5 3 0 2 ∷ modify 0 1 6 0 7 ∷ modify 0 5 6 0 4 ∷ modify 0 5 0 0 7 ∷
    modify 0 1 1 0 4294967295 ∷ modify 0 32773 2 1 6 ∷ Command.destroy_qp 0 ∷ create ∷ [])
    ≡ 7 ∷ 7 ∷ 2 ∷ 2 ∷ 4 ∷ 0 ∷ 0 ∷ 6 ∷ 0 ∷ 0 ∷ []
unfolding flags_along pairs after command_checks command_effect lowest lowest_from any_below
kept = refl

-- "flag bits above 2 give 4", with state 0 and before 2 and 3; every flag up to 7 may be set; "without bit 2 the number is ignored"; other
-- mask bits, and a mask without bit 0, stay 4
pub refused : map (λ k. refusal (command_checks pairs k))
    (modify 0 5 0 0 8 ∷ modify 7 5 1 0 8 ∷ modify 0 5 3 0 8 ∷ modify 0 5 1 0 4294967295 ∷ modify 0 5 1 0 2147483648 ∷
    modify 0 5 0 0 7 ∷ modify 0 5 1 0 0 ∷ modify 0 5 1 0 2 ∷ modify 0 5 1 0 6 ∷ modify 0 1 1 0 4294967295 ∷
    modify 7 5 1 0 7 ∷ modify 0 5 3 0 7 ∷ modify 0 4 1 0 7 ∷ modify 0 3 1 0 7 ∷ modify 0 9 1 0 7 ∷ modify 0 37 1 0 7 ∷ [])
    ≡ some 4 ∷ some 4 ∷ some 4 ∷ some 4 ∷ some 4 ∷
    none ∷ none ∷ none ∷ none ∷ none ∷
    some 2 ∷ some 3 ∷ some 4 ∷ some 4 ∷ some 4 ∷ some 4 ∷ []
unfolding pairs after command_checks command_effect lowest lowest_from any_below
refused = refl

-- stored flags: up to 7 in every combination, and none above
pub stored : map (λ f. pair_ok 0 (record { pd = 0; signal = 0; scq = 0; rcq = 0; state = 3; rights = f; dest = 1 })) (0 ∷ 2 ∷ 6 ∷ 7 ∷ 8 ∷ 10 ∷ 255 ∷ [])
    ≡ true ∷ true ∷ true ∷ true ∷ false ∷ false ∷ false ∷ []
stored = refl

-- ---- ranges

-- for each use, one byte of the marks' region with the flags 0, 3 and 4, one of the other region with 7 and 2, since the right is needed "in
-- the region and in the peer's flags", and an empty range under a key that nobody has: "an empty range looks at neither"
abbrev asked : (n k f : ℕ) → List Bool
asked n k f = map (λ u. permits_all (after pairs (flagged f ∷ [])) 0 u (range 4096 k n)) uses

pub ranges : asked 1 1 0 ∷ asked 1 1 3 ∷ asked 1 1 4 ∷ asked 1 257 7 ∷ asked 1 257 2 ∷ asked 0 9999 0 ∷ []
    ≡ (true ∷ true ∷ false ∷ false ∷ [])
    ∷ (true ∷ true ∷ true ∷ false ∷ [])
    ∷ (true ∷ true ∷ false ∷ true ∷ [])
    ∷ (true ∷ false ∷ false ∷ true ∷ [])
    ∷ (true ∷ false ∷ false ∷ false ∷ [])
    ∷ (true ∷ true ∷ true ∷ true ∷ [])
    ∷ []
unfolding pairs after command_checks command_effect lowest lowest_from any_below all range permits_all permits lookup covers
ranges = refl

-- ---- statuses

abbrev piece : (n : ℕ) → Sge
piece n = record { address = 4096; length = n; key = 1 }

-- queue pair 0 with its flags in RTS, queue pair 1 with its own in RTR, and a receive waiting there
abbrev met : (own far : ℕ) → Card
met a b =
    let c = after pairs
    (modify 0 5 1 0 a ∷ modify 0 32769 2 1 0 ∷ modify 0 1 3 0 0 ∷ modify 1 5 1 0 b ∷ modify 1 32769 2 0 0 ∷ []) in
    with_qp c (upd c.qp 1 (with_waiting (c.qp 1) (record { wr = 0; sges = piece 9 ∷ [] } ∷ [])))

-- the status of n bytes with an opcode, by the sender's flags and the peer's
abbrev status : (opcode n own far : ℕ) → ℕ
status o n a b =
    send_status (met a b) 0
    (record { wr = 0; opcode = o; signaled = false; inline = false; bytes = []; imm = 0; address = 4096; key = 1; sges = piece n ∷ [] })

-- "Each byte of a remote write or read needs the right in the region and in the peer's flags, else status 8": the peer's, not the sender's; a
-- write, one with immediate and a read, empty ones, and a send
pub statuses : (status 0 1 0 2 ∷ status 0 1 0 7 ∷ status 0 1 7 0 ∷ status 0 1 7 5 ∷ [])
    ∷ (status 1 1 0 2 ∷ status 1 1 7 5 ∷ [])
    ∷ (status 4 1 0 4 ∷ status 4 1 7 3 ∷ [])
    ∷ (status 0 0 0 0 ∷ status 1 0 0 0 ∷ status 4 0 0 0 ∷ [])
    ∷ (status 2 9 0 0 ∷ status 3 9 0 0 ∷ [])
    ∷ []
    ≡ (0 ∷ 0 ∷ 8 ∷ 8 ∷ [])
    ∷ (0 ∷ 8 ∷ [])
    ∷ (0 ∷ 8 ∷ [])
    ∷ (0 ∷ 0 ∷ 0 ∷ [])
    ∷ (0 ∷ 0 ∷ [])
    ∷ []
unfolding pairs after command_checks command_effect lowest lowest_from any_below all range sge_bytes sge_total total own_bytes far_bytes run_status send_status permits_all permits lookup covers
statuses = refl
