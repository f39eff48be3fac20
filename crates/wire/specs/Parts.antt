-- Parts: `count` runs of `size` bytes from `base` on in a list of bytes, for what has a layout of its own elsewhere.
-- Laws: proofs/PartsLaws.antt. Assumes nothing.
use Rattle.std.specs.Prelude.{ℕ, ◌+◌, ◌*◌, List, length, take, drop}
use Rattle.std.proofs.Math.Seq.{paste}

pub record Parts : Type 0 where
  pub base : ℕ
  pub count : ℕ
  pub size : ℕ

-- where part n begins, and where they all end
unfoldable pub part_place : Parts → ℕ → ℕ
part_place t n = t.base + n * t.size

unfoldable pub parts_end : Parts → ℕ
parts_end t = t.base + t.count * t.size

unfoldable pub part_at : Parts → List ℕ → ℕ → List ℕ
part_at t l n = take t.size (drop (part_place t n) l)

-- the list with the bytes x at the beginning of part n
unfoldable pub put_part : Parts → List ℕ → ℕ → (x : List ℕ) → List ℕ
put_part t l n x = paste l (part_place t n) x (length x)
