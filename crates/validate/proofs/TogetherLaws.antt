-- From tests of several rows together to the test of each. Assumes nothing.
use Rattle.std.proofs.Common.{◌≡◌, ℕ, zero, suc, ◌+◌, ◌-◌, ◌*◌, ◌/◌, ◌%◌, ◌<◌, ◌≤◌, Bool, true, ◌&&◌, eqb, ltb, leb, ◌⊎◌, List, get_or, sym, refl, ap, ap₂, ◌∙◌, inl, inr, ⊎_elim, add-zero, mod-lt, mod-eq_of_lt, mul-one, arith, ltb-true, lt-ltb, eq-eqb, eqb-true, le-leb, leb-true}
use native.Mathlib.Decide.{dec_lt}
use native.Mathlib.Nat.{mod-add-mod}
use borrow.Author.Tests.{not-false}
use Rattle.std.proofs.Math.Bool.{and-true, and_assoc}
use Rattle.std.proofs.lemmas.Bool.{or_cases}
use Rattle.wire.specs.Codec.{fields_at}
use Rattle.wire.specs.Le.{le_at}
use Rattle.wire.specs.Ring.{ring_place, ring_list}
use Rattle.wire.specs.Scan.{all, all_below, lowest, clear_at}
use Rattle.wire.specs.Table.{row_at, place}
use Rattle.wire.proofs.FlagLaws.{flags_most}
use Rattle.wire.proofs.LeLaws.{le_at_below}
use Rattle.wire.proofs.ScanLaws.{all_same, all_each, all_at, all_nil, all_cons, lowest_least, and_left, and_right, both_true}
use Rattle.tables.specs.Layout.{memory_t, pd_flag_t, pd_flag_base, mr_flag_t, mr_flag_base, mr_t, mr_base, page_t, entry_t, receive_t, flag_codec, region_codec}
use Rattle.tables.specs.Limits.{qp_count, most_places, most_waiting, most_queued, most_message, most_address, most_access, page_size, most_pages}
use Rattle.tables.specs.State.{card, region_at, pages_at, pages_needed, ring_at, receives_at, queued_at, place_at, no_completion, no_record, no_queued}
use Rattle.tables.specs.declared.Completion.{Completion}
use Rattle.tables.specs.declared.Region.{Region}
use Rattle.tables.proofs.ObjectLaws.{pd_is, page_at, entry_at, receive_at, queued_at_lem}
use Rattle.validate.specs.Accept.{access_ok, fields_ok, page_inside, numbers_ok, land_ok, mr_ok, completion_ok, receive_ok, queued_ok}
use Rattle.validate.specs.Together.{eight_ok, pages_ok, variant_ok, virt_ok, first_word, remote_ok, words_ok, word_ok, range_ok, row_ok}
use Rattle.validate.proofs.BitLaws.{Between}
use Rattle.validate.proofs.TestLaws.{mr_rest, need_most, page_by_number, paged_rest, land_flat, land_paged}

-- a test that each number passes which is at most the one that passed
pub all_most : (n : ℕ) (f : ℕ → ℕ) (any most : ℕ) → any ≤ most → ((k : ℕ) → k < n → f k ≤ any) → all_below n (λ k. leb (f k) most) ≡ true
all_most n f any most h b = all_each n (λ k. leb (f k) most) (λ k l. let x = b k l in le-leb (f k) most (omega arith))

-- four tests of each number
pub all_four : (n : ℕ) (p q r s : ℕ → Bool) → all_below n p ≡ true → all_below n q ≡ true → all_below n r ≡ true → all_below n s ≡ true
    → all_below n (λ k. p k && q k && r k && s k) ≡ true
all_four n p q r s a b c d =
    all_each n (λ k. p k && q k && r k && s k)
    (λ k h. both_true (p k && q k && r k) (s k) (both_true (p k && q k) (r k) (both_true (p k) (q k) (all_at n p k h a) (all_at n q k h b)) (all_at n r k h c)) (all_at n s k h d))

-- the largest of the page numbers so far, or more
pub max_more : (f : ℕ → ℕ) (i top new : ℕ) → top ≤ new → f i ≤ new → ((k : ℕ) → k < i → f k ≤ top) → (k : ℕ) → k < i + 1 → f k ≤ new
max_more f i top new a b h k l =
    elim (dec_lt k i) [
      | yes q ↦ let x = h k q in omega arith
      | no q ↦ let z : k ≡ i = omega arith in rw z b
    ]

-- page numbers that are all at most one which passes
pub pages_by : (memory : ℕ) (l : List ℕ) (from many top : ℕ) → ltb top (memory / page_size) ≡ true → ((k : ℕ) → k < many → row_at page_t l (from + k) ≤ top)
    → pages_ok memory l from many ≡ true
pages_by memory l from many top e m =
    let t : top < memory / page_size = ltb-true top (memory / page_size) e in
    all_each many (λ k. page_inside memory (page_size * row_at page_t l (from + k)))
    (λ k b. let x = m k b in let n : ℕ = row_at page_t l (from + k) in page_by_number memory n ∙ lt-ltb n (memory / page_size) (omega arith))

-- those that a region needs, from all its places
pub numbers_by : (memory : ℕ) (l : List ℕ) (n count : ℕ) → count ≤ most_pages → pages_ok memory l (most_pages * n) most_pages ≡ true
    → numbers_ok memory count (pages_at l n) ≡ true
numbers_by memory l n count h e =
    all_each count (λ k. page_inside memory (page_size * get_or (pages_at l n) k 0))
    (λ k b. let m : k < most_pages = omega arith in
    rw (page_at l n k m) (all_at most_pages (λ k. page_inside memory (page_size * row_at page_t l (most_pages * n + k))) k m e))

-- ---- a region's row

module _ (l : List ℕ) (n : ℕ) where
  pub variant_is : le_at 1 l (mr_base + n * 32 + 1) ≡ (row_at mr_t l n).variant
  unfolding row_at mr_t region_codec fields_at place
  variant_is = refl

-- the first four numbers are bytes
pub record Small (r : Region) : Type 0 where
  pub access : r.access < 256
  pub variant : r.variant < 256
  pub pd : r.pd < 256
  pub kind : r.kind < 256

pub row_small : (l : List ℕ) (n : ℕ) → Small (row_at mr_t l n)
unfolding row_at mr_t region_codec fields_at place
row_small l n = record { access = le_at_below 1 l _; variant = le_at_below 1 l _; pd = le_at_below 1 l _; kind = le_at_below 1 l _ }

-- access bits without remote write, or with local write
access_by : (a : ℕ) → a ≤ most_access → (a / 2 % 2 ≡ 0) ⊎ (a % 2 ≡ 1) → access_ok a ≡ true
access_by zero h e = refl
access_by (suc zero) h e = refl
access_by (suc (suc zero)) h e = ⊎_elim (λ x. absurd (omega arith)) (λ x. absurd (omega arith)) e
access_by (suc (suc (suc zero))) h e = refl
access_by (suc (suc (suc (suc zero)))) h e = refl
access_by (suc (suc (suc (suc (suc zero))))) h e = refl
access_by (suc (suc (suc (suc (suc (suc zero)))))) h e = ⊎_elim (λ x. absurd (omega arith)) (λ x. absurd (omega arith)) e
access_by (suc (suc (suc (suc (suc (suc (suc zero))))))) h e = refl
access_by (suc (suc (suc (suc (suc (suc (suc (suc n)))))))) h e = absurd (omega arith)

-- what stands where in the word
record Fields (r : Region) : Type 0 where
  byte : first_word r % 256 ≡ r.access
  low : first_word r % 2 ≡ r.access % 2
  second : first_word r / 2 % 2 ≡ r.access / 2 % 2
  pd : first_word r / 65536 % 256 ≡ r.pd
  kind : first_word r / 16777216 % 256 ≡ r.kind

word_fields : (r : Region) → Small r → Fields r
word_fields r s = record { byte = omega arith; low = omega arith; second = omega arith; pd = omega arith; kind = omega arith }

-- the word of one row is between what all words and any have in common
pub word_by : (kind domains all any : ℕ) (r : Region) → kind < 256 → Small r → words_ok kind domains any all ≡ true → Between all any (first_word r)
    → word_ok kind domains r ≡ true
word_by kind domains all any r small s e b =
    let w : Bool = remote_ok any all in
    let a : Bool = leb (any % 256) most_access in
    let p : Bool = ltb (any / 65536 % 256) domains in
    let k : Bool = eqb (any / 16777216) kind in
    let m : Bool = eqb (all / 16777216) kind in
    let e4 : (w && a && p && k) ≡ true = and_left (w && a && p && k) m e in
    let e3 : (w && a && p) ≡ true = and_left (w && a && p) k e4 in
    let e2 : (w && a) ≡ true = and_left (w && a) p e3 in
    let ha : any % 256 ≤ most_access = leb-true _ _ (and_right w a e2) in
    let hp : any / 65536 % 256 < domains = ltb-true _ _ (and_right (w && a) p e3) in
    let hk : any / 16777216 ≡ kind = eqb-true _ _ (and_right (w && a && p) k e4) in
    let hm : all / 16777216 ≡ kind = eqb-true _ _ (and_right (w && a && p && k) m e) in
    let x0 : first_word r % 256 ≤ any % 256 = let y = b.high 0 8 in omega arith in
    let x1 : first_word r / 65536 % 256 ≤ any / 65536 % 256 = b.high 16 8 in
    let x2 : first_word r / 16777216 % 256 ≤ any / 16777216 % 256 = b.high 24 8 in
    let x3 : all / 16777216 % 256 ≤ first_word r / 16777216 % 256 = b.low 24 8 in
    let x4 : first_word r / 2 % 2 ≤ any / 2 % 2 = b.high 1 1 in
    let x5 : all % 2 ≤ first_word r % 2 = let y = b.low 0 1 in omega arith in
    let f : Fields r = word_fields r s in
    both_true _ _
    (both_true _ _
    (access_by r.access (omega arith)
    (⊎_elim (λ z. inr (let y : all % 2 ≡ 1 = eqb-true _ _ z in omega arith)) (λ z. inl (let y : any / 2 % 2 ≡ 0 = eqb-true _ _ z in omega arith))
    (or_cases (eqb (all % 2) 1) (eqb (any / 2 % 2) 0) (and_left w a e2))))
    (lt-ltb r.pd domains (omega arith)))
    (eq-eqb r.kind kind (omega arith))

-- ---- a live region of one of the first domains, which are live

module _ (l : List ℕ) (kind limit domains n : ℕ) (live : row_at mr_flag_t l n ≡ 1) (pds : all_below domains (card l).pd ≡ true) (most : limit ≤ most_address)
    (ok : row_ok kind limit domains (row_at mr_t l n) ≡ true) where
  abbrev r : Region
  r = row_at mr_t l n

  abbrev first : Bool
  first = variant_ok r && virt_ok limit r

  range_ok_lem : range_ok limit r ≡ true
  range_ok_lem = and_right (first && word_ok kind domains r) (range_ok limit r) ok

  word_ok_lem : word_ok kind domains r ≡ true
  word_ok_lem = and_right first (word_ok kind domains r) (and_left (first && word_ok kind domains r) (range_ok limit r) ok)

  first_ok : first ≡ true
  first_ok = and_left first (word_ok kind domains r) (and_left (first && word_ok kind domains r) (range_ok limit r) ok)

  ends : r.start + r.length ≤ limit
  ends = leb-true (r.start + r.length) limit (and_right (leb 1 r.length) (leb (r.start + r.length) limit) range_ok_lem)

  is_kind_lem : r.kind ≡ kind
  is_kind_lem = eqb-true r.kind kind (and_right (access_ok r.access && ltb r.pd domains) (eqb r.kind kind) word_ok_lem)

  pd_ok_lem : (card l).pd r.pd ≡ true
  pd_ok_lem =
      let a : Bool = access_ok r.access in
      let b : Bool = ltb r.pd domains in
      all_at domains (card l).pd r.pd (ltb-true r.pd domains (and_right a b (and_left (a && b) (eqb r.kind kind) word_ok_lem))) pds

  fields_ok_lem : fields_ok r ≡ true
  fields_ok_lem =
      let a : Bool = access_ok r.access in
      let b : Bool = ltb r.pd domains in
      let v : r.virt ≤ most_address - limit = leb-true r.virt (most_address - limit) (and_right (variant_ok r) (virt_ok limit r) first_ok) in
      let e = ends in
      both_true _ _
      (both_true _ _
      (both_true _ _ (and_left a b (and_left (a && b) (eqb r.kind kind) word_ok_lem)) (and_left (variant_ok r) (virt_ok limit r) first_ok))
      (and_left (leb 1 r.length) (leb (r.start + r.length) limit) range_ok_lem))
      (le-leb (r.virt + r.length) most_address (omega arith))

  mr_by : land_ok (row_at memory_t l 0) (region_at l n) ≡ true → mr_ok l n ≡ true
  mr_by land =
      mr_rest l n live ∙ both_true _ _ pd_ok_lem (both_true _ _ fields_ok_lem land)

  pub flat_by : kind ≡ 0 → limit ≡ row_at memory_t l 0 → mr_ok l n ≡ true
  flat_by k m =
      mr_by (land_flat l n (row_at memory_t l 0) r refl (is_kind_lem ∙ k) ∙ le-leb (r.start + r.length) (row_at memory_t l 0) (let e = ends in omega arith))

  pub paged_by : kind ≡ 1 → limit ≡ most_pages * page_size → r.start ≤ page_size - 1
      → ((k : ℕ) → k < most_pages → row_at page_t l (most_pages * n + k) < row_at memory_t l 0 / page_size) → mr_ok l n ≡ true
  paged_by k m s pages =
      let memory : ℕ = row_at memory_t l 0 in
      let b : r.start + r.length ≤ most_pages * page_size = let e = ends in omega arith in
      let one : r.kind ≡ 1 = is_kind_lem ∙ k in
      mr_by
      (land_paged l n memory r refl (λ z. let y : ◌≡◌ {A = ℕ} 0 1 = sym z ∙ one in omega arith) one
      ∙ paged_rest l n memory r refl s (le-leb (r.start + r.length) (most_pages * page_size) b)
      ∙ all_each (pages_needed r.start r.length) (λ i. page_inside memory (page_size * get_or (pages_at l n) i 0))
      (λ i h. let c : i < most_pages = let q = need_most r.start r.length b in omega arith in
      let p : ℕ = row_at page_t l (most_pages * n + i) in
      rw (page_at l n i c) (page_by_number memory p ∙ lt-ltb p (memory / page_size) (pages i c))))

-- ---- eight of them

module _ (l : List ℕ) (g kind limit domains : ℕ) (live : all_below 8 (λ i. eqb (row_at mr_flag_t l (8 * g + i)) 1) ≡ true)
    (pds : all_below domains (card l).pd ≡ true) (most : limit ≤ most_address) (ok : eight_ok (row_ok kind limit domains) l g ≡ true) where
  is_live_lem : (i : ℕ) → i < 8 → row_at mr_flag_t l (8 * g + i) ≡ 1
  is_live_lem i h = eqb-true (row_at mr_flag_t l (8 * g + i)) 1 (all_at 8 (λ i. eqb (row_at mr_flag_t l (8 * g + i)) 1) i h live)

  row_ok_lem : (i : ℕ) → i < 8 → row_ok kind limit domains (row_at mr_t l (8 * g + i)) ≡ true
  row_ok_lem i h = all_at 8 (λ i. row_ok kind limit domains (row_at mr_t l (8 * g + i))) i h ok

  pub eight_flat : kind ≡ 0 → limit ≡ row_at memory_t l 0 → all_below 8 (λ i. mr_ok l (8 * g + i)) ≡ true
  eight_flat k m =
      all_each 8 (λ i. mr_ok l (8 * g + i)) (λ i h. flat_by l kind limit domains (8 * g + i) (is_live_lem i h) pds most (row_ok_lem i h) k m)

  pub eight_paged : kind ≡ 1 → limit ≡ most_pages * page_size → eight_ok (λ r. leb r.start (page_size - 1)) l g ≡ true
      → pages_ok (row_at memory_t l 0) l (128 * g) 128 ≡ true → all_below 8 (λ i. mr_ok l (8 * g + i)) ≡ true
  eight_paged k m starts pages =
      all_each 8 (λ i. mr_ok l (8 * g + i))
      (λ i h. paged_by l kind limit domains (8 * g + i) (is_live_lem i h) pds most (row_ok_lem i h) k m
      (leb-true (row_at mr_t l (8 * g + i)).start (page_size - 1) (all_at 8 (λ i. leb (row_at mr_t l (8 * g + i)).start (page_size - 1)) i h starts))
      (λ j b. let z : most_pages * (8 * g + i) + j ≡ 128 * g + (16 * i + j) = omega arith in
      let memory : ℕ = row_at memory_t l 0 in
      let p : ℕ = row_at page_t l (128 * g + (16 * i + j)) in
      let q = all_at 128 (λ k. page_inside memory (page_size * row_at page_t l (128 * g + k))) (16 * i + j) (omega arith) pages in
      rw z (ltb-true p (memory / page_size) (sym (page_by_number memory p) ∙ q))))

-- ---- flags that are set

module _ (l : List ℕ) where
  set_at : (at i : ℕ) → i < lowest 8 (clear_at l at) → eqb (le_at 1 l (at + i)) 1 ≡ true
  set_at at i h = not-false (eqb (le_at 1 l (at + i)) 1) (lowest_least 8 (clear_at l at) i h)

  pub live_mrs : (g : ℕ) → 8 ≤ lowest 8 (clear_at l (mr_flag_base + 8 * g)) → all_below 8 (λ i. eqb (row_at mr_flag_t l (8 * g + i)) 1) ≡ true
  unfolding row_at mr_flag_t flag_codec fields_at place
  live_mrs g h =
      all_each 8 (λ i. eqb (row_at mr_flag_t l (8 * g + i)) 1)
      (λ i b. let z : mr_flag_base + (8 * g + i) ≡ mr_flag_base + 8 * g + i = omega arith in rw (mul-one, add-zero, z) (set_at (mr_flag_base + 8 * g) i (omega arith)))

  -- the domains below the lowest free one
  pub live_pds : all_below (lowest 8 (clear_at l pd_flag_base)) (card l).pd ≡ true
  unfolding row_at pd_flag_t flag_codec fields_at place
  live_pds =
      let most : lowest 8 (clear_at l pd_flag_base) ≤ 8 = flags_most l pd_flag_base 8 in
      all_each (lowest 8 (clear_at l pd_flag_base)) (card l).pd (λ i b. pd_is l i (omega arith) ∙ rw (mul-one, add-zero) (set_at pd_flag_base i b))

-- ---- rings

-- a ring whose places all pass, passes from any place on
ring_each : {A : Type 0} (d : A) (cap : ℕ) (p : A → Bool) (r : List A) → ((k : ℕ) → k < cap → p (get_or r k d) ≡ true) → (f n : ℕ) → f < cap
    → all p (ring_list d cap r f n) ≡ true
unfolding ring_list
ring_each d cap p r h f zero b = all_nil p
ring_each d cap p r h f (suc n) b =
    all_cons p (get_or r f d) (ring_list d cap r ((f + 1) % cap) n)
    ∙ both_true (p (get_or r f d)) (all p (ring_list d cap r ((f + 1) % cap) n)) (h f b) (ring_each d cap p r h ((f + 1) % cap) n (mod-lt (f + 1) (omega arith)))

-- the first of several tests, and the others
all_first : (n : ℕ) (p : ℕ → Bool) → all_below (suc n) p ≡ (p 0 && all_below n (λ k. p (k + 1)))
unfolding all_below
all_first zero p = sym (and-true (p 0))
all_first (suc n) p =
    let e : suc n ≡ n + 1 = omega arith in
    ap (λ (b : Bool). b && p (suc n)) (all_first n p) ∙ and_assoc (p 0) (all_below n (λ k. p (k + 1))) (p (suc n)) ∙ ap (λ (k : ℕ). p 0 && (all_below n (λ k. p (k + 1)) && p k)) e

-- the entries of a ring pass where their places do
ring_below : {A : Type 0} (d : A) (cap : ℕ) (p : A → Bool) (r : List A) (q : ℕ → Bool) → ((k : ℕ) → k < cap → p (get_or r k d) ≡ q k) → (f n : ℕ) → f < cap
    → all p (ring_list d cap r f n) ≡ all_below n (λ k. q (ring_place cap f k))
unfolding ring_list all_below
ring_below d cap p r q h f zero b = all_nil p
ring_below d cap p r q h f (suc n) b =
    let here : f ≡ (f + 0) % cap = sym (ap (λ (x : ℕ). x % cap) (add-zero f) ∙ mod-eq_of_lt b) in
    all_cons p (get_or r f d) (ring_list d cap r ((f + 1) % cap) n)
    ∙ ap₂ ◌&&◌ (h f b ∙ ap q here)
    (ring_below d cap p r q h ((f + 1) % cap) n (mod-lt (f + 1) (omega arith))
    ∙ all_same n (λ k. q (ring_place cap ((f + 1) % cap) k)) (λ k. q (ring_place cap f (k + 1)))
    (λ k l. let z : f + 1 + k ≡ f + (k + 1) = omega arith in ap q (mod-add-mod (f + 1) cap k ∙ ap (λ (x : ℕ). x % cap) z)))
    ∙ sym (all_first n (λ k. q (ring_place cap f k)))

module _ (l : List ℕ) (n f c : ℕ) where
  pub unread_each : f < most_places
      → all completion_ok (ring_list no_completion most_places (ring_at l n) f c) ≡ all_below c (λ k. completion_ok (row_at entry_t l (most_places * n + ring_place most_places f k)))
  unread_each b =
      ring_below no_completion most_places completion_ok (ring_at l n) (λ k. completion_ok (row_at entry_t l (most_places * n + k)))
      (λ k m. ap completion_ok (entry_at l n k m)) f c b

  pub posted_each : f < most_waiting
      → all receive_ok (ring_list no_record most_waiting (receives_at l n) f c) ≡ all_below c (λ k. receive_ok (row_at receive_t l (most_waiting * n + ring_place most_waiting f k)))
  posted_each b =
      ring_below no_record most_waiting receive_ok (receives_at l n) (λ k. receive_ok (row_at receive_t l (most_waiting * n + k)))
      (λ k m. ap receive_ok (receive_at l n k m)) f c b

  pub queued_each : f < most_queued
      → all queued_ok (ring_list no_queued most_queued (queued_at l n) f c) ≡ all_below c (λ k. queued_ok (place_at l (most_queued * n + ring_place most_queued f k)))
  queued_each b =
      ring_below no_queued most_queued queued_ok (queued_at l n) (λ k. queued_ok (place_at l (most_queued * n + k)))
      (λ k m. ap queued_ok (queued_at_lem l n k m)) f c b

module _ (l : List ℕ) (n : ℕ) where
  pub unread_by : all_below most_places (λ k. completion_ok (row_at entry_t l (most_places * n + k))) ≡ true → (f c : ℕ) → f < most_places
      → all completion_ok (ring_list no_completion most_places (ring_at l n) f c) ≡ true
  unread_by h f c b =
      ring_each no_completion most_places completion_ok (ring_at l n)
      (λ k m. rw (entry_at l n k m) (all_at most_places (λ k. completion_ok (row_at entry_t l (most_places * n + k))) k m h)) f c b

  pub posted_by : all_below most_waiting (λ k. receive_ok (row_at receive_t l (most_waiting * n + k))) ≡ true → (f c : ℕ) → f < most_waiting
      → all receive_ok (ring_list no_record most_waiting (receives_at l n) f c) ≡ true
  posted_by h f c b =
      ring_each no_record most_waiting receive_ok (receives_at l n)
      (λ k m. rw (receive_at l n k m) (all_at most_waiting (λ k. receive_ok (row_at receive_t l (most_waiting * n + k))) k m h)) f c b

  pub queued_by : all_below most_queued (λ k. queued_ok (place_at l (most_queued * n + k))) ≡ true → (f c : ℕ) → f < most_queued
      → all queued_ok (ring_list no_queued most_queued (queued_at l n) f c) ≡ true
  queued_by h f c b =
      ring_each no_queued most_queued queued_ok (queued_at l n)
      (λ k m. rw (queued_at_lem l n k m) (all_at most_queued (λ k. queued_ok (place_at l (most_queued * n + k))) k m h)) f c b

-- a completion by what the statuses, the opcodes and the owners of several are at most
pub completion_by : (e : Completion) (statuses opcodes owners : ℕ) → statuses ≤ 1 → opcodes ≤ 4 → owners < qp_count → e.status ≤ statuses → e.opcode ≤ opcodes
    → e.owner ≤ owners → e.length ≤ most_message → completion_ok e ≡ true
completion_by e statuses opcodes owners a b c x y z m =
    rw (le-leb e.status 1 (omega arith), le-leb e.opcode 4 (omega arith), le-leb e.length most_message m, lt-ltb e.owner qp_count (omega arith))
