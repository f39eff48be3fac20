-- A region that is dropped while a receive waits on it, or while a peer has its remote key: the next work request that touches a byte under
-- the key finds out. Assumes nothing.
use Rattle.std.specs.Prelude.{◌≡◌, ◌≢◌, Bool, true, false, List, [], ◌∷◌, ℕ, ◌/◌, ◌%◌, ◌≤◌, ◌<◌, eqb, leb, length, get_or}
use Rattle.std.proofs.Math.Option.{none, some}
use Rattle.wire.specs.Checks.{Passed}
use Rattle.wire.specs.Slots.{upd}
use Rattle.tables.specs.Limits.{mr_count, most_message}
use Rattle.tables.specs.Card.{Card, Mr, free_mr, tail}
use Rattle.tables.specs.Commands.{Command}
use Rattle.validate.specs.Search.{last_variant, retired, free_mrn}
use Rattle.tables.specs.declared.Registration.{Registration}
use Rattle.rules.specs.declared.Answer.{Answer}
use Rattle.rules.specs.declared.Answer.TheVariants.{Done}
use Rattle.rules.specs.Answer.{is_done}
use Rattle.rules.specs.Touch.{fills, total, sge_total, own_bytes, far_bytes}
use Rattle.tables.specs.Records.{Request, request_of}
use Rattle.rules.specs.Permit.{key_of, lookup, permits_all}
use Rattle.rules.specs.Control.{command_checks, command_effect, new_variant, registered}
use Rattle.rules.specs.Pages.{page_list_checks}
use Rattle.rules.specs.Send.{peer_of, taken_by, own_use, sender_put, receiver_put, put_all, is_in_error}
use Rattle.rules.specs.Call.{Call}
use Rattle.rules.specs.Calls.{step}

-- ---- what the work request r on q gets, with the cards c and c' and the memory m and m' before and after it, and its answer a

-- one that fills a receive: "sender 7, receiver 3. The receive is consumed, both QPs go to error"; no byte is moved
pub record Fails (c c' : Card) (q : ℕ) (r : Request) (a : Answer) (m m' : List ℕ) : Type 0 where
  pub answer : a ≡ Done 7
  pub memory : m' ≡ m
  pub puts : c'.cq ≡ put_all (sender_put c q r 7 ∷ receiver_put c q r 7 ∷ []) c.cq
  pub receiver : (receiver_put c q r 7).entry.status ≡ 3
  pub consumed : (c'.qp (peer_of c q)).waiting ≡ tail (c.qp (peer_of c q)).waiting
  pub sender_state : (c'.qp q).state ≡ 6
  pub peer_state : (c'.qp (peer_of c q)).state ≡ 6

-- one with a remote key: status 8 moves "only the sender to error; no receive is consumed"; no byte is moved
pub record Denied (c c' : Card) (q : ℕ) (r : Request) (a : Answer) (m m' : List ℕ) : Type 0 where
  pub answer : a ≡ Done 8
  pub memory : m' ≡ m
  pub puts : c'.cq ≡ put_all (sender_put c q r 8 ∷ []) c.cq
  pub sender_state : (c'.qp q).state ≡ 6
  pub others : (j : ℕ) → eqb q j ≡ false → c'.qp j ≡ c.qp j

abbrev pub LostBy : (fill : Bool) → (c c' : Card) → (q : ℕ) → Request → Answer → (m m' : List ℕ) → Type 0
LostBy true c c' q r a m m' = Fails c c' q r a m m'
LostBy false c c' q r a m m' = Denied c c' q r a m m'

abbrev pub Lost : (c c' : Card) → (q : ℕ) → Request → Answer → (m m' : List ℕ) → Type 0
Lost c c' q r a m m' = LostBy (fills r.opcode) c c' q r a m m'

-- ---- when

-- the key under which byte i of the peer's side is named
abbrev pub far_key : Card → (q : ℕ) → Request → (i : ℕ) → ℕ
far_key c q r i = (get_or (far_bytes r (taken_by c q)) i (record { address = 0; key = 0 })).key

-- the request is not flushed, passes all tests before that of the peer's bytes, and touches byte i of them
pub record Reaches (c : Card) (q : ℕ) (r : Request) (i : ℕ) : Type 0 where
  pub running : is_in_error (c.qp q) ≡ false
  pub short : leb (total r) most_message ≡ true
  pub own : permits_all c q (own_use r.opcode) (own_bytes r) ≡ true
  pub fits : fills r.opcode ≡ true → leb (total r) (sge_total (taken_by c q).sges) ≡ true
  pub within : i < length (far_bytes r (taken_by c q))

-- a post send that is neither refused nor held, where no live region has the key of byte i
unfoldable pub StaleFails : Type 0
StaleFails =
    (c : Card) (q : ℕ) (x m : List ℕ) (i : ℕ) → let o = step c (Call.send q x m) in
    is_done o.answer ≡ true → Reaches c q (request_of x) i → lookup c.mr (far_key c q (request_of x) i) ≡ none →
    Lost c o.card q (request_of x) o.answer m o.memory

-- a region n that was dropped before it, where byte i is named under a key of the region
unfoldable pub DroppedRegion : Type 0
DroppedRegion =
    (c : Card) (n q : ℕ) (x m : List ℕ) (i : ℕ) →
    let c₁ = command_effect c (Command.deregister n) in
    let o = step c₁ (Call.send q x m) in
    is_done o.answer ≡ true → Reaches c₁ q (request_of x) i → far_key c₁ q (request_of x) i / 256 ≡ n →
    Lost c₁ o.card q (request_of x) o.answer m o.memory

-- one that is held or refused stays so when a region is dropped: its keys are not looked at before
unfoldable pub HeldStays : Type 0
HeldStays =
    (c : Card) (n q : ℕ) (x m : List ℕ) → let k = Call.send q x m in
    is_done (step c k).answer ≡ false → (step (command_effect c (Command.deregister n)) k).answer ≡ (step c k).answer

-- ---- keys

-- a live region is found under its key, and under no other: any other key finds without it what it finds with it
unfoldable pub LiveFound : Type 0
LiveFound =
    (mr : ℕ → Mr) (n : ℕ) → (mr n).live ≡ true → (mr n).variant ≤ last_variant →
    (lookup mr (key_of n (mr n).variant) ≡ some (mr n).reg) ×
    ((k : ℕ) → k ≢ key_of n (mr n).variant → lookup (upd mr n (free_mr (mr n).variant)) k ≡ lookup mr k)

-- a region that is dropped takes its keys with it, and leaves the receives waiting
unfoldable pub KeysDropped : Type 0
KeysDropped =
    (c : Card) (n k : ℕ) → k / 256 ≡ n →
    (lookup (command_effect c (Command.deregister n)).mr k ≡ none) × ((command_effect c (Command.deregister n)).qp ≡ c.qp)

-- a key that its slot has handed out: its variant is at least 1, and the slot has come to it or past it
abbrev pub HandedOut : Card → (k : ℕ) → Type 0
HandedOut c k = (1 ≤ k % 256) × (k % 256 ≤ (c.mr (k / 256)).variant)

-- and that finds no region
pub record Spent (c : Card) (k : ℕ) : Type 0 where
  pub handed : HandedOut c k
  pub gone : lookup c.mr k ≡ none

-- every key that a slot has handed out is such a key when its region is dropped
unfoldable pub DropSpends : Type 0
DropSpends = (c : Card) (k : ℕ) → HandedOut c k → Spent (command_effect c (Command.deregister (k / 256))) k

-- 02, M-109, "Never hand out an old key": whatever command follows, or registration over pages, no such key, however old, finds one again
unfoldable pub OldKeysGone : Type 0
OldKeysGone =
    (c : Card) (k : ℕ) → Spent c k →
    ((x : Command) → Spent (command_effect c x) k) × ((g : Registration) (ps : List ℕ) → Spent (registered c g ps) k)

-- 02, M-109: "A slot whose variant 255 was handed out and dropped is retired"
unfoldable pub DropRetires : Type 0
DropRetires =
    (c : Card) (n : ℕ) → (c.mr n).variant ≡ last_variant → retired ((command_effect c (Command.deregister n)).mr n) ≡ true

-- 02, M-109: "until reset": a command, or a registration over pages, that passes its tests leaves a retired slot so
unfoldable pub StaysRetired : Type 0
StaysRetired =
    (c : Card) (n : ℕ) → retired (c.mr n) ≡ true →
    ((x : Command) → Passed (command_checks c x) → retired ((command_effect c x).mr n) ≡ true) ×
    ((g : Registration) (ps : List ℕ) → Passed (page_list_checks c g ps) → retired ((registered c g ps).mr n) ≡ true)

-- 02, M-106: "The largest key is 65,535", of a registration of either kind that passes its tests
unfoldable pub LargestKey : Type 0
LargestKey =
    (c : Card) (g : Registration) → let k = key_of (free_mrn c) (new_variant c) in
    (Passed (command_checks c (Command.register g)) → k ≤ 65535) × ((ps : List ℕ) → Passed (page_list_checks c g ps) → k ≤ 65535)

-- another region in the slot, of either kind, has the new key alone
unfoldable pub OldKeyStale : Type 0
OldKeyStale =
    (c : Card) (g : Registration) (ps : List ℕ) (k : ℕ) → k / 256 ≡ free_mrn c → k ≢ key_of (free_mrn c) (new_variant c) →
    lookup (registered c g ps).mr k ≡ none

-- and that stands at once, also for a receive that was posted before, where a slot could be taken
unfoldable pub NewKeyStands : Type 0
NewKeyStands =
    (c : Card) (g : Registration) (ps : List ℕ) → free_mrn c < mr_count →
    (lookup (registered c g ps).mr (key_of (free_mrn c) (new_variant c)) ≡ some g) × ((registered c g ps).qp ≡ c.qp)
