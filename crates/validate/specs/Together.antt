-- What tests of several rows together show of each, while every domain is live. What the papers ask of it is in Accept.antt. Assumes nothing.
use Rattle.std.specs.Prelude.{◌≡◌, ℕ, ◌+◌, ◌-◌, ◌*◌, ◌/◌, ◌%◌, ◌<◌, Bool, true, ◌&&◌, ◌||◌, List, ◌==◌, nat_le, nat_lt}
use Rattle.wire.specs.Le.{le_at}
use Rattle.wire.specs.Scan.{all_below}
use Rattle.wire.specs.Table.{row_at}
use Rattle.tables.specs.Layout.{mr_t, page_t}
use Rattle.tables.specs.Limits.{most_address, most_access, page_size}
use Rattle.tables.specs.declared.Region.{Region}
use Rattle.validate.specs.Accept.{access_ok, page_inside}

-- b holds where the test x passes
abbrev pub Enough : (x b : Bool) → Type 0
Enough x b = x ≡ true → b ≡ true

-- what a test may answer of a number below n is what p says of it
abbrev pub Tells : (ℕ → Bool → Type 0) → (n : ℕ) → (ℕ → Bool) → Type 0
Tells answers n p = (k : ℕ) (b : Bool) → k < n → answers k b → b ≡ p k

-- what may be given for a row is what f says of it
abbrev pub Gives : (Region → ℕ → Type 0) → (Region → ℕ) → Type 0
Gives given f = (r : Region) (x : ℕ) → given r x → x ≡ f r

-- the bytes from `at` on are zeros
abbrev pub Zeros : List ℕ → (at many : ℕ) → Type 0
Zeros l at many = (i : ℕ) → i < many → le_at 1 l (at + i) ≡ 0

-- the rows of the eight region slots from 8 g on
abbrev pub eight_ok : (Region → Bool) → List ℕ → ℕ → Bool
eight_ok p l g = all_below 8 (λ i. p (row_at mr_t l (8 * g + i)))

-- page numbers, `many` of them from row `from` on
abbrev pub pages_ok : (memory : ℕ) → List ℕ → (from many : ℕ) → Bool
pages_ok memory l from many = all_below many (λ k. page_inside memory (page_size * row_at page_t l (from + k)))

abbrev pub variant_ok : Region → Bool
variant_ok r = nat_le 1 r.variant

-- its first address, where its length is at most `limit`
abbrev pub virt_ok : (limit : ℕ) → Region → Bool
virt_ok limit r = nat_le r.virt (most_address - limit)

-- the first four bytes of a row as a number
abbrev pub first_word : Region → ℕ
first_word r = r.access + 256 * r.variant + 65536 * r.pd + 16777216 * r.kind

-- such numbers of rows of one kind: `any` has the bits of each, `all` has those that each has
abbrev pub remote_ok : (any all : ℕ) → Bool
remote_ok any all = all % 2 == 1 || any / 2 % 2 == 0

abbrev pub words_ok : (kind domains any all : ℕ) → Bool
words_ok kind domains any all =
    remote_ok any all && nat_le (any % 256) most_access && nat_lt (any / 65536 % 256) domains && any / 16777216 == kind && all / 16777216 == kind

-- a row's access, its domain, one of the first `domains`, and its kind
abbrev pub word_ok : (kind domains : ℕ) → Region → Bool
word_ok kind domains r = access_ok r.access && nat_lt r.pd domains && r.kind == kind

-- its range, that ends at `limit` at most
abbrev pub range_ok : (limit : ℕ) → Region → Bool
range_ok limit r = nat_le 1 r.length && nat_le (r.start + r.length) limit

abbrev pub row_ok : (kind limit domains : ℕ) → Region → Bool
row_ok kind limit domains r = variant_ok r && virt_ok limit r && word_ok kind domains r && range_ok limit r
