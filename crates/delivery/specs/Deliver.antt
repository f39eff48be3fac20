-- Steps 3 to 6 of document 01, "Posting and delivering": the total, what must be permitted, the status, and the message moved. In each
-- definition s is the head of a request, sges are its scatter/gather entries, of which it has count, b its inline bytes, w is the receive
-- that it takes, and n the number of bytes of the message. Assumes nothing.
use Rattle.std.specs.Prelude.{◌≡◌, Bool, true, false, cond, not, ◌&&◌, List, [], ◌∷◌, ℕ, ◌+◌, ◌*◌, ◌≤◌, eqb, leb, length, take}
use Rattle.wire.specs.Table.{row_at}
use Rattle.tables.specs.Card.{Card}
use Rattle.tables.specs.Layout.{waiting_t, receive_t}
use Rattle.tables.specs.Limits.{most_waiting, most_message, most_inline}
use Rattle.tables.specs.Records.{is_inline, receive_sges}
use Rattle.tables.specs.State.{card, no_record}
use Rattle.tables.specs.declared.QueuePair.{QueuePair}
use Rattle.tables.specs.declared.ReceiveRecord.{ReceiveRecord}
use Rattle.tables.specs.declared.SendRecord.{SendRecord}
use Rattle.tables.specs.declared.Sge.{Sge}
use Rattle.rules.specs.declared.Party.{Party}
use Rattle.rules.specs.Lists.{stored}
use Rattle.rules.specs.Send.{status_by}
use Rattle.rules.specs.Touch.{Byte, takes, fills, reads, sge_bytes, sge_total, cut}
use Rattle.dma.specs.Grants.{allows_all}
use Rattle.dma.specs.Moves.{mapped_all, places, moved}
use Rattle.delivery.specs.declared.meet.Ends.{Ends}

-- ---- whose use it is, and what is touched

-- a queue pair's domain and access flags
abbrev pub party_in : QueuePair → Party
party_in p = record { pd = p.pd; rights = p.rights }

-- "Oldest receive first": the receive that a request of opcode o takes from queue pair d
abbrev pub taken_row : List ℕ → (d o : ℕ) → ReceiveRecord
taken_row l d o = cond (takes o) (row_at receive_t l (most_waiting * d + (row_at waiting_t l d).first)) no_record

-- "Total (the inline length, or the pieces' sum)"
abbrev pub total_by : SendRecord → List Sge → (b : List ℕ) → ℕ
total_by s sges b = cond (is_inline s) (length b) (sge_total (take s.count sges))

-- the sender's side; "Inline bytes aren't judged"
abbrev pub own_by : SendRecord → List Sge → List Byte
own_by s sges = cond (is_inline s) [] (sge_bytes (take s.count sges))

-- the peer's side: "The first total bytes of that list" of the receive, or "remote range (total bytes from the remote address)"
abbrev pub far_list : SendRecord → ReceiveRecord → (n : ℕ) → List Sge
far_list s w n = cond (fills s.opcode) (cut n (receive_sges w)) (record { address = s.address; length = n; key = s.key } ∷ [])

-- a write or a read of one entry, which takes no receive: its other side is the remote range
abbrev pub is_single : SendRecord → Bool
is_single s = not (is_inline s) && eqb s.count 1 && not (takes s.opcode)

-- "local reading none, local writing bit 1, remote write 2, remote read 4": the sender's "for reading (opcode 4: for writing)"
abbrev pub own_mask : (opcode : ℕ) → ℕ
own_mask o = cond (reads o) 1 0

-- the peer's "for local writing", or "for remote write (opcode 4: remote read)"
abbrev pub far_mask : (opcode : ℕ) → ℕ
far_mask o = cond (fills o) 1 (cond (reads o) 4 2)

-- ---- the message moved

-- what the move asks: both sides lie in live regions and have as many bytes
pub record Carries (c : Card) (s : SendRecord) (b : List ℕ) (own far : List Sge) : Type 0 where
  pub most : sge_total far ≤ most_message
  pub target : mapped_all c (sge_bytes far) ≡ true
  pub plain : is_inline s ≡ false → (mapped_all c (sge_bytes own) ≡ true) × (sge_total own ≡ sge_total far)
  pub short : is_inline s ≡ true → (length b ≤ most_inline) × (length b ≡ sge_total far)

-- "Success. All source bytes are read before any is written": the memory m after it
abbrev pub carried : Card → SendRecord → (b : List ℕ) → (own far : List Sge) → (m : List ℕ) → List ℕ
carried c s b own far m =
    cond (is_inline s) (stored m (places c far) b)
    (cond (reads s.opcode) (moved m (places c far) (places c own)) (moved m (places c own) (places c far)))

-- ---- steps 3 to 6

-- step 3 found no fault
pub record OwnSide (c : Card) (e : Ends) (s : SendRecord) (sges : List Sge) (n : ℕ) : Type 0 where
  pub short : n ≤ most_message
  pub permitted : allows_all c (party_in e.own) (own_mask s.opcode) (own_by s sges) ≡ true

-- what they ask of a message of n bytes
pub record Sending (s : SendRecord) (sges : List Sge) (b : List ℕ) (n : ℕ) : Type 0 where
  pub plain : is_inline s ≡ false → s.count ≤ 4
  pub short : is_inline s ≡ true → length b ≤ most_inline
  pub total : total_by s sges b ≡ n

-- "Total .. over 4,096: status 1. A local piece not permitted ..: status 3", and the statuses of steps 4 and 5
abbrev pub status_in : List ℕ → Ends → SendRecord → List Sge → ReceiveRecord → (n : ℕ) → ℕ
status_in l e s sges w n =
    status_by (fills s.opcode) (leb n most_message) (allows_all (card l) (party_in e.own) (own_mask s.opcode) (own_by s sges))
    (leb n (sge_total (receive_sges w))) (allows_all (card l) (party_in e.far) (far_mask s.opcode) (sge_bytes (far_list s w n)))

-- they give the status st and leave the memory m'
pub record Delivery (l m : List ℕ) (e : Ends) (s : SendRecord) (sges : List Sge) (b : List ℕ) (w : ReceiveRecord) (n st : ℕ) (m' : List ℕ)
    : Type 0 where
  pub status : st ≡ status_in l e s sges w n
  pub memory : m' ≡ cond (eqb st 0) (carried (card l) s b (take s.count sges) (far_list s w n) m) m
