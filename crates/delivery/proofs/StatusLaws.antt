-- Steps 3 to 6: how the code ends with each status, and that the status and the memory are the rules'. Assumes nothing.
use mathlib.Core.Path.{◌≡◌, refl, sym, ap, ap₂, ◌∙◌}
use mathlib.Core.Bool.{Bool, true, false, cond, not, ◌||◌, false≢true}
use mathlib.Core.List.{List, [], ◌∷◌}
use Prim.Native.Nat.{ℕ, ◌≤◌, ◌<◌}
use native.Mathlib.Nat.{add-zero}
use lib.Dec.{eqb, leb}
use lib.ListN.{take}
use borrow.Author.Tests.{leb-true, le-leb, lt-leb}
use Rattle.tables.specs.State.{card}
use Rattle.tables.specs.Limits.{most_message}
use Rattle.tables.specs.Records.{receive_sges}
use Rattle.tables.specs.declared.ReceiveRecord.{ReceiveRecord}
use Rattle.tables.specs.declared.SendRecord.{SendRecord}
use Rattle.tables.specs.declared.Sge.{Sge}
use Rattle.rules.specs.Send.{status_by}
use Rattle.rules.specs.Touch.{fills, sge_bytes, sge_total, cut}
use Rattle.rules.proofs.Runs.{cut_total}
use Rattle.rules.specs.declared.Party.{Party}
use Rattle.dma.specs.Grants.{allows_all}
use Rattle.dma.proofs.UseLaws.{permitted_mapped_all}
use Rattle.delivery.specs.Deliver.{party_in, own_mask, far_mask, own_by, far_list, Sending, OwnSide, Delivery, Carries, carried}
use Rattle.delivery.specs.declared.meet.Ends.{Ends}

-- ---- the order of the tests

long_status : (f t z : Bool) → (not f || t) ≡ false → 7 ≡ status_by f true true t z
long_status true true z e = absurd (false≢true (sym e))
long_status true false z e = refl
long_status false t z e = absurd (false≢true (sym e))

far_status : (f t : Bool) → (not f || t) ≡ true → cond f 7 8 ≡ status_by f true true t false
far_status true true e = refl
far_status true false e = absurd (false≢true e)
far_status false t e = refl

done_status : (f t : Bool) → (not f || t) ≡ true → 0 ≡ status_by f true true t true
done_status true true e = refl
done_status true false e = absurd (false≢true e)
done_status false t e = refl

unmoved : (f : Bool) (x m : List ℕ) → m ≡ cond (eqb (cond f 7 8) 0) x m
unmoved true x m = refl
unmoved false x m = refl

-- ---- each ending

module _ (l m : List ℕ) (e : Ends) (s : SendRecord) (sges : List Sge) (v : List ℕ) (w : ReceiveRecord) (n : ℕ) where
  abbrev o : ℕ
  o = s.opcode

  abbrev mine : Bool
  mine = allows_all (card l) (party_in e.own) (own_mask o) (own_by s sges)

  abbrev fit : Bool
  fit = leb n (sge_total (receive_sges w))

  abbrev theirs : Bool
  theirs = allows_all (card l) (party_in e.far) (far_mask o) (sge_bytes (far_list s w n))

  pub too_long : most_message < n → Delivery l m e s sges v w n 1 m
  too_long h = record { status = rw (lt-leb n most_message h); memory = refl }

  -- the judgement of the sender's entries, as the code has it
  pub own_judged : (p : Party) → p ≡ party_in e.own → (b : Bool) → b ≡ allows_all (card l) p (own_mask o) (own_by s sges) → b ≡ mine
  own_judged p who b judged = judged ∙ ap (λ (y : Party). allows_all (card l) y (own_mask o) (own_by s sges)) who

  pub own_refused : n ≤ most_message → mine ≡ false → Delivery l m e s sges v w n 3 m
  own_refused most h = record { status = rw (le-leb n most_message most, h); memory = refl }

  -- the judgement of the peer's entries, as the code has it
  pub far_judged : (p : Party) → p ≡ party_in e.far → (mask : ℕ) → mask ≡ far_mask o → (far : List Sge) → far ≡ far_list s w n →
      (b : Bool) → b ≡ allows_all (card l) p mask (sge_bytes far) → b ≡ theirs
  far_judged p who mask masks far is b judged =
      judged ∙ ap (λ (y : Party). allows_all (card l) y mask (sge_bytes far)) who
      ∙ ap₂ (λ (y : ℕ) (z : List Sge). allows_all (card l) (party_in e.far) y (sge_bytes z)) masks is

  module _ (side : OwnSide (card l) e s sges n) where
    short : leb n most_message ≡ true
    short = le-leb n most_message side.short

    h : mine ≡ true
    h = side.permitted

    pub too_much : (not (fills o) || fit) ≡ false → Delivery l m e s sges v w n 7 m
    too_much k = record { status = rw (short, h) (long_status (fills o) fit theirs k); memory = refl }

    module _ (k : (not (fills o) || fit) ≡ true) where
      pub far_refused : (st : ℕ) → st ≡ cond (fills o) 7 8 → theirs ≡ false → Delivery l m e s sges v w n st m
      far_refused st i z =
          record {
            status = rw (short, h, z) (i ∙ far_status (fills o) fit k);
            memory = rw i (unmoved (fills o) (carried (card l) s v (take s.count sges) (far_list s w n) m) m);
          }

      module _ (z : theirs ≡ true) (list : List Sge) (is : list ≡ far_list s w n) where
        pub all_moved : (m' : List ℕ) → m' ≡ carried (card l) s v (take s.count sges) list m → Delivery l m e s sges v w n 0 m'
        all_moved m' i =
            record {
              status = rw (short, h, z) (done_status (fills o) fit k);
              memory = i ∙ ap (λ (y : List Sge). carried (card l) s v (take s.count sges) y m) is;
            }

      -- what the move asks of the peer's side: a byte that anybody may use is mapped, so whose use it was does not matter
      module _ (p : Party) (x : ℕ) (list : List Sge) (z : allows_all (card l) p x (sge_bytes list) ≡ true) (is : list ≡ far_list s w n) where
        far_total : (f : Bool) → (not f || fit) ≡ true → sge_total (cond f (cut n (receive_sges w)) (record { address = s.address; length = n; key = s.key } ∷ [])) ≡ n
        unfolding sge_total
        far_total true i = cut_total n (receive_sges w) (leb-true n (sge_total (receive_sges w)) i)
        far_total false i = add-zero n

        pub carries : Sending s sges v n → Carries (card l) s v (take s.count sges) list
        carries y =
            let f : sge_total list ≡ n = rw is (far_total (fills o) k) in
            record {
              most = rw f side.short;
              target = permitted_mapped_all (card l) p x (sge_bytes list) z;
              plain = λ i. (permitted_mapped_all (card l) (party_in e.own) (own_mask o) (sge_bytes (take s.count sges)) (rw i at h), (rw i at y.total) ∙ sym f);
              short = λ i. (y.short i, (rw i at y.total) ∙ sym f);
            }
