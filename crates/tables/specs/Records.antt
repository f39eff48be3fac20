-- The records of document 01, "Posting and delivering", each layout once, for reading and for writing: a line is a number's offset, its
-- width in bytes, and its name. What no line covers is reserved or padding, and ignored. Laws: proofs/ReadingLaws.antt. Assumes nothing.
use Rattle.std.specs.Prelude.{refl, Bool, cond, not, ◌&&◌, ◌||◌, List, [], ◌∷◌, ◌++◌, ℕ, ◌+◌, ◌*◌, ◌%◌, eqb, ltb, leb, length, get_or, take, drop, Result}
use Rattle.wire.specs.Checks.{Check, ◌if◌, refusal, has, only}
use Rattle.wire.specs.Codec.{Codec, Field, Line, field, line, decode, within, clear, apart}
use Rattle.wire.specs.Le.{le_at}
use Rattle.wire.specs.Rows.{rows}
use Rattle.tables.specs.Limits.{most_sges, most_inline, most_receive_sges}
use Rattle.tables.specs.Refusal.{result_by}
use Rattle.tables.specs.declared.Completion.{Completion}
use Rattle.tables.specs.declared.ReceiveRecord.{ReceiveRecord}
use Rattle.tables.specs.declared.SendKind.{SendKind}
use Rattle.tables.specs.declared.SendRecord.{SendRecord}
use Rattle.tables.specs.declared.Sge.{Sge}
use Rattle.tables.specs.declared.refusal.Refusal.{Refusal}

-- ---- pieces: scatter/gather entries

-- "A piece is address 8, length 4, key 4", at an offset of a record that has it
abbrev pub sge_lines : {A : Type 0} → ℕ → (A → Sge) → List (Line A)
sge_lines o piece =
    line o 8 (λ r. (piece r).address) ∷
    line (o + 8) 4 (λ r. (piece r).length) ∷
    line (o + 12) 4 (λ r. (piece r).key) ∷
    []

abbrev pub sge_from : List ℕ → ℕ → Sge
sge_from vs i = record { address = get_or vs i 0; length = get_or vs (i + 1) 0; key = get_or vs (i + 2) 0 }

unfoldable pub sge_codec : Codec Sge
unfolding within clear apart
sge_codec = record { size = 16; lines = sge_lines 0 (λ r. r); make = λ vs. sge_from vs 0; ends = tt; clears = tt; back = λ r. refl }

abbrev pub no_sge : Sge
no_sge = record { address = 0; length = 0; key = 0 }

-- the piece at an offset of a record; one that the record does not have is nothing
abbrev pub sge_at : List ℕ → (at : ℕ) → Sge
sge_at x at = cond (leb (at + 16) (length x)) (decode sge_codec x at) no_sge

-- ---- send records

-- "Send record (001): wr_id at 0 (8 bytes), opcode 8, flags 9, immediate 12 (4), remote address 16 (8), remote key 24 (4), .. piece count 560 (4; ..)"
unfoldable pub send_codec : Codec SendRecord
unfolding within clear apart
send_codec = record {
  size = 576;
  lines =
      line 0 8 (λ r. r.wr) ∷
      line 8 1 (λ r. r.opcode) ∷
      line 9 1 (λ r. r.flags) ∷
      line 12 4 (λ r. r.imm) ∷
      line 16 8 (λ r. r.address) ∷
      line 24 4 (λ r. r.key) ∷
      line 560 4 (λ r. r.count) ∷
      [];
  make = λ vs. record {
    wr = get_or vs 0 0;
    opcode = get_or vs 1 0;
    flags = get_or vs 2 0;
    imm = get_or vs 3 0;
    address = get_or vs 4 0;
    key = get_or vs 5 0;
    count = get_or vs 6 0;
  };
  ends = tt;
  clears = tt;
  back = λ r. refl;
}

-- flag bits: "0 fence and 2 solicited (no effect), 1 signaled, 3 inline"
abbrev pub flag_bits : ℕ
flag_bits = 15

abbrev pub is_signaled : SendRecord → Bool
is_signaled s = has 2 s.flags

abbrev pub is_inline : SendRecord → Bool
is_inline s = has 8 s.flags

-- "inline bytes 48 to 559, .. with inline, a 2-byte inline length" at 560
unfoldable pub inline_length : List ℕ → ℕ
inline_length x = le_at 2 x 560

-- "The reader hands back the inline bytes as a part of the caller's record"
unfoldable pub inline_bytes : List ℕ → List ℕ
inline_bytes x = take (inline_length x) (drop 48 x)

-- piece i, "pieces from 576"
unfoldable pub send_sge : List ℕ → ℕ → Sge
send_sge x i = sge_at x (576 + 16 * i)

-- "under 576 bytes 1; opcode above 4, flag bit 4 or higher, inline with opcode 4, inline length over 512, or count over 4 gives 4;
-- not exactly 576 + 16 × count (576 with inline) 1"
unfoldable pub send_checks : List ℕ → List Check
send_checks x =
    let s : SendRecord = decode send_codec x 0 in
    1 if ltb (length x) 576 ∷
    4 if ltb 4 s.opcode ∷
    4 if not (only flag_bits s.flags) ∷
    4 if (is_inline s && eqb s.opcode 4) ∷
    4 if (is_inline s && ltb most_inline (inline_length x)) ∷
    4 if (not (is_inline s) && ltb most_sges s.count) ∷
    1 if not (eqb (length x) (cond (is_inline s) 576 (576 + 16 * s.count))) ∷
    []

-- what reading a send record gives: the record, or the refusal
unfoldable pub send_read : List ℕ → Result SendRecord Refusal
send_read x = result_by (refusal (send_checks x)) (decode send_codec x 0)

-- the tests of a record that give answer 4, of its numbers alone: with the inline flag, the inline length is the low 16 bits of count
abbrev pub send_bad : SendRecord → Bool
send_bad s =
    ltb 4 s.opcode
    || not (only flag_bits s.flags)
    || (is_inline s && (eqb s.opcode 4 || ltb most_inline (s.count % 65536)))
    || (not (is_inline s) && ltb most_sges s.count)

-- and its exact length
abbrev pub send_size : SendRecord → ℕ
send_size s = cond (is_inline s) 576 (576 + 16 * s.count)

-- ---- the records as requests

-- a work request; inline is the flag, bytes are the inline bytes, none without it; sges are its pieces, none with it
pub record Request : Type 0 where
  pub wr : ℕ
  pub opcode : ℕ
  pub signaled : Bool
  pub inline : Bool
  pub bytes : List ℕ
  pub imm : ℕ
  pub address : ℕ
  pub key : ℕ
  pub sges : List Sge

-- the inline bytes of a record x whose numbers are s: with the inline flag, the inline length is the low 16 bits of count
abbrev pub inline_in : SendRecord → List ℕ → List ℕ
inline_in s x = take (s.count % 65536) (drop 48 x)

-- the request that a record x whose numbers are s is
abbrev pub request_with : SendRecord → List ℕ → Request
request_with s x =
    record {
      wr = s.wr;
      opcode = s.opcode;
      signaled = is_signaled s;
      inline = is_inline s;
      bytes = cond (is_inline s) (inline_in s x) [];
      imm = s.imm;
      address = s.address;
      key = s.key;
      sges = cond (is_inline s) [] (rows s.count (send_sge x));
    }

-- the request that the bytes of a send record are
unfoldable pub request_of : List ℕ → Request
request_of x = request_with (decode send_codec x 0) x

-- ---- queued records

-- the numbers of a record that the tests of answer 4 look at, which a queue keeps in a column of their own
abbrev pub kind_of : SendRecord → SendKind
kind_of s = record { opcode = s.opcode; flags = s.flags; count = s.count % 65536 }

-- a place of a queue: its row of the column, and a record as it was lent, in which those numbers are not looked at
pub record QueuedSend : Type 0 where
  pub kind : SendKind
  pub body : List ℕ

-- the numbers of a queued record, those of the column from there
abbrev pub with_kind : SendRecord → SendKind → SendRecord
with_kind s k =
    record {
      wr = s.wr;
      opcode = k.opcode;
      flags = k.flags;
      imm = s.imm;
      address = s.address;
      key = s.key;
      count = k.count;
    }

abbrev pub sent_in : QueuedSend → SendRecord
sent_in s = with_kind (decode send_codec s.body 0) s.kind

-- and the request that it is
abbrev pub request_in : QueuedSend → Request
request_in s = request_with (sent_in s) s.body

-- ---- receive records

-- "Receive record: wr_id 0, count 8, pieces from 24, at most two"; the pieces that it does not have read as zero
unfoldable pub receive_codec : Codec ReceiveRecord
unfolding within clear apart
receive_codec = record {
  size = 56;
  lines = line 0 8 (λ r. r.wr) ∷ line 8 4 (λ r. r.count) ∷ (sge_lines 24 (λ r. r.first) ++ sge_lines 40 (λ r. r.second));
  make = λ vs. record { wr = get_or vs 0 0; count = get_or vs 1 0; first = sge_from vs 2; second = sge_from vs 5 };
  ends = tt;
  clears = tt;
  back = λ r. refl;
}

-- "under 24 bytes 1; count over 2 gives 4; exact length 1"
unfoldable pub receive_checks : List ℕ → List Check
receive_checks x =
    let r : ReceiveRecord = decode receive_codec x 0 in
    1 if ltb (length x) 24 ∷ 4 if ltb most_receive_sges r.count ∷ 1 if not (eqb (length x) (24 + 16 * r.count)) ∷ []

unfoldable pub receive_read : List ℕ → Result ReceiveRecord Refusal
receive_read x = result_by (refusal (receive_checks x)) (decode receive_codec x 0)

-- a receive's pieces
unfoldable pub receive_sges : ReceiveRecord → List Sge
receive_sges r = take r.count (r.first ∷ r.second ∷ [])

-- ---- completions

-- "Completion (*house*, 24 bytes): wr_id 8, status 1, opcode 1, zero 2, byte length 4, immediate 4, owner qpn 4"
unfoldable pub completion_codec : Codec Completion
unfolding within clear apart
completion_codec = record {
  size = 24;
  lines =
      line 0 8 (λ r. r.wr) ∷
      line 8 1 (λ r. r.status) ∷
      line 9 1 (λ r. r.opcode) ∷
      line 10 2 (λ r. 0) ∷
      line 12 4 (λ r. r.length) ∷
      line 16 4 (λ r. r.imm) ∷
      line 20 4 (λ r. r.owner) ∷
      [];
  make = λ vs. record {
    wr = get_or vs 0 0;
    status = get_or vs 1 0;
    opcode = get_or vs 2 0;
    length = get_or vs 4 0;
    imm = get_or vs 5 0;
    owner = get_or vs 6 0;
  };
  ends = tt;
  clears = tt;
  back = λ r. refl;
}

-- its fields from the status to the length
abbrev pub result_fields : List Field
result_fields = field 8 1 ∷ field 9 1 ∷ field 10 2 ∷ field 12 4 ∷ []
