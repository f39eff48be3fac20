-- What demand 3 says to operators who share a card: a memory byte in no region of the written side's domain keeps its value,
-- and a message is read out of regions of the read side's domain only. Assumes nothing.
use Rattle.std.specs.Prelude.{◌≡◌, ◌≢◌, true, List, ℕ, ◌+◌, ◌≤◌, ◌<◌, length, get_or}
use Rattle.std.proofs.Math.Option.{some}
use Rattle.rules.specs.Touch.{Byte, byte_of}
use Rattle.judge.specs.Log.{Log}
use Rattle.judge.specs.Judge.{Standing, standing, Side, passes, placed, Work, moves, read_side, written_side, Source, sources}
use Rattle.judge.specs.Demand3.{target_byte, source_at, written_length}

-- the address lies in the region h, of either kind, and means the memory byte p
pub record Means (h : Standing) (address p : ℕ) : Type 0 where
  pub low : h.reg.virt ≤ address
  pub high : address < h.reg.virt + h.reg.length
  pub is : byte_of h.pages h.reg address ≡ p

-- the byte b passes for the side s, by a standing registration made in its domain, and means the memory byte p
pub record Covered (l : Log) (s : Side) (b : Byte) (p : ℕ) : Type 0 where
  pub passed : passes l s.party s.right b ≡ true
  pub reg : Standing
  pub stands : standing l b.key ≡ some reg
  pub same : s.party.domain ≡ some reg.reg.pd
  pub means : Means reg b.address p

-- why the memory byte p may be written for the request: it is written byte i's
pub record Reason (l : Log) (w : Work) (p : ℕ) : Type 0 where
  pub i : ℕ
  pub below : i < written_length l w
  pub covered : Covered l (written_side l w) (target_byte l w i) p

-- of a work request answered 0
pub record Apart (l : Log) (w : Work) (s : ℕ) (m m' : List ℕ) : Type 0 where
  -- a memory byte that differs after the call has its reason
  pub changed : (p : ℕ) → get_or m' p 0 ≢ get_or m p 0 → Reason l w p
  -- a memory byte that no standing registration of the written side's domain has an address for keeps its value
  pub spared : (p : ℕ) →
      ((k a : ℕ) (h : Standing) → standing l k ≡ some h → (written_side l w).party.domain ≡ some h.reg.pd → Means h a p → ⊥) →
      get_or m' p 0 ≡ get_or m p 0
  -- a message byte that is not given by the request comes out of a region of the read side's domain
  pub read : moves l w ≡ true → (i : ℕ) → i < length (sources l w) → (b : Byte) → source_at l w i ≡ Source.byte b →
      Covered l (read_side l w) b (placed l b)
