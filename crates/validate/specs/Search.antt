-- Look-ups over the card: the lowest free number of each table, and whether an object is in use. Executable. Assumes nothing.
use Rattle.std.specs.Prelude.{◌≡◌, ℕ, ◌<◌, Option, MatchOption, Bool, not, ◌&&◌, ◌||◌, ◌==◌, nat_le}
use Rattle.wire.specs.Scan.{lowest, any_below}
use Rattle.tables.specs.Card.{Card, Mr, cq_live}
use Rattle.tables.specs.Limits.{pd_count, cq_count, mr_count, qp_count}

-- "Creation takes the lowest free number"; the table's count where no number is free
abbrev pub free_pdn : Card → ℕ
free_pdn c = lowest pd_count (λ i. not (c.pd i))

abbrev pub free_cqn : Card → ℕ
free_cqn c = lowest cq_count (λ i. not (cq_live c i))

-- the last variant of a slot's keys
abbrev pub last_variant : ℕ
last_variant = 255

-- 02, M-109: "A slot whose variant 255 was handed out and dropped is retired until reset."
abbrev pub retired : Mr → Bool
retired s = not s.live && nat_le last_variant s.variant

-- "Registration takes the lowest free slot that isn't retired"
abbrev pub vacant : Mr → Bool
vacant s = not s.live && not (retired s)

-- the lowest number below n that passes, where one does
abbrev pub IsLowest : Option ℕ → (n : ℕ) → (ℕ → Bool) → Type 0
IsLowest r n p = MatchOption r (lowest n p ≡ n) (λ i. (i < n) × (i ≡ lowest n p))

abbrev pub free_mrn : Card → ℕ
free_mrn c = lowest mr_count (λ i. vacant (c.mr i))

abbrev pub free_qpn : Card → ℕ
free_qpn c = lowest qp_count (λ i. not (c.qp i).live)

-- "In use (10): a PD with a live MR or QP; a CQ named by a live QP."
abbrev pub mr_names : Card → ℕ → ℕ → Bool
mr_names c n i = (c.mr i).live && (c.mr i).reg.pd == n

abbrev pub qp_names : Card → ℕ → ℕ → Bool
qp_names c n i = (c.qp i).live && (c.qp i).pd == n

abbrev pub pd_in_use : Card → ℕ → Bool
pd_in_use c n = any_below mr_count (mr_names c n) || any_below qp_count (qp_names c n)

abbrev pub qp_uses : Card → ℕ → ℕ → Bool
qp_uses c n i = (c.qp i).live && ((c.qp i).scq == n || (c.qp i).rcq == n)

abbrev pub cq_in_use : Card → ℕ → Bool
cq_in_use c n = any_below qp_count (qp_uses c n)
