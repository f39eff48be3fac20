-- What a work request touches, document 01, "Posting and delivering": the request and the receive that a record is, the bytes that
-- they name, the memory byte that an address means, and what a delivery writes. Nothing here says what is permitted: the rules and
-- the judge each decide that for themselves, and share this file, the records' layouts, 01's limits, and the types of calls and
-- answers. Assumes nothing.
use Rattle.std.specs.Prelude.{Bool, false, cond, ◌&&◌, List, [], ◌∷◌, ◌++◌, map, ℕ, zero, suc, ◌+◌, ◌-◌, ◌/◌, ◌%◌, min, eqb, leb, length, get_or, take}
use Rattle.tables.specs.Card.{Receive, receive_of}
use Rattle.tables.specs.Limits.{page_size}
use Rattle.tables.specs.Records.{Request, receive_codec}
use Rattle.tables.specs.declared.Registration.{Registration}
use Rattle.tables.specs.declared.Sge.{Sge}
use Rattle.rules.specs.Lists.{stored}
use Rattle.wire.specs.Codec.{decode}

-- ---- the records as requests and receives

-- the receive that the bytes of a receive record are
unfoldable pub receive_in : List ℕ → Receive
receive_in x = receive_of (decode receive_codec x 0)

-- what stands past the end of a queue of requests
abbrev pub no_request : Request
no_request = record { wr = 0; opcode = 0; signaled = false; inline = false; bytes = []; imm = 0; address = 0; key = 0; sges = [] }

-- "Opcodes: 0 write, 1 write with immediate, 2 send, 3 send with immediate, 4 read"; 1, 2, 3 take a receive of the peer, 2 and 3 fill it
abbrev pub takes : ℕ → Bool
takes o = leb 1 o && leb o 3

abbrev pub fills : ℕ → Bool
fills o = leb 2 o && leb o 3

abbrev pub reads : ℕ → Bool
reads o = eqb o 4

-- ---- the bytes that a request touches

-- one byte as a request names it
pub record Byte : Type 0 where
  pub address : ℕ
  pub key : ℕ

-- the n bytes from the address a on; an address may pass 2^64, and does not wrap
unfoldable pub range : (a k n : ℕ) → List Byte
range a k zero = []
range a k (suc n) = record { address = a; key = k } ∷ range (suc a) k n

unfoldable pub sge_bytes : List Sge → List Byte
sge_bytes [] = []
sge_bytes (p ∷ ps) = range p.address p.key p.length ++ sge_bytes ps

unfoldable pub sge_total : List Sge → ℕ
sge_total [] = 0
sge_total (p ∷ ps) = p.length + sge_total ps

-- "The first total bytes of that list": pieces cut to their first n bytes
unfoldable pub cut : ℕ → List Sge → List Sge
cut n [] = []
cut n (p ∷ ps) = record { address = p.address; length = min n p.length; key = p.key } ∷ cut (n - p.length) ps

-- "Total (the inline length, or the pieces' sum)"
unfoldable pub total : Request → ℕ
total r = cond r.inline (length r.bytes) (sge_total r.sges)

-- the sender's side: its pieces; "Inline bytes aren't judged"
unfoldable pub own_bytes : Request → List Byte
own_bytes r = cond r.inline [] (sge_bytes r.sges)

-- the peer's side: "remote range (total bytes from the remote address)", or "The first total bytes of that list" of the receive
unfoldable pub far_bytes : Request → Receive → List Byte
far_bytes r w = cond (fills r.opcode) (take (total r) (sge_bytes w.sges)) (range r.address r.key (total r))

-- ---- the bytes of the memory

-- the byte that stands at an offset into the memory, or into the pages whose first bytes are listed, where there are any
unfoldable pub byte_in : (pages : List ℕ) → (offset : ℕ) → ℕ
byte_in [] o = o
byte_in (p ∷ ps) o = get_or (p ∷ ps) (o / page_size) 0 + o % page_size

-- "The byte is memory start + (address − virt)"; 02, M-105: "Start is the offset into the first page". Said once, for both kinds of region.
unfoldable pub byte_of : (pages : List ℕ) → Registration → (address : ℕ) → ℕ
byte_of ps g a = byte_in ps (g.start + (a - g.virt))

-- "sender's side to peer's (opcode 4: back)"
abbrev pub source_bytes : Request → Receive → List Byte
source_bytes r w = cond (reads r.opcode) (far_bytes r w) (own_bytes r)

abbrev pub target_bytes : Request → Receive → List Byte
target_bytes r w = cond (reads r.opcode) (own_bytes r) (far_bytes r w)

-- the message: the inline bytes, or what the source bytes hold before the call; `at` is the place of a byte in the memory m
unfoldable pub message : (at : Byte → ℕ) → Request → Receive → (m : List ℕ) → List ℕ
message at r w m = cond r.inline r.bytes (map (λ b. get_or m (at b) 0) (source_bytes r w))

-- "All source bytes are read before any is written; pieces fill in list order, a later one overwriting"; 02, M-105: "the later byte of the
-- message wins, inside one piece too"
unfoldable pub delivered : (at : Byte → ℕ) → Request → Receive → (m : List ℕ) → List ℕ
delivered at r w m = stored m (map at (target_bytes r w)) (message at r w m)
