-- A write or a read of one entry: what the code finds of it without an array, and that it fares as any request. Assumes nothing.
use mathlib.Core.Path.{◌≡◌, refl, sym, ap, ◌∙◌}
use mathlib.Core.Bool.{Bool, true, false, not, ◌&&◌, false≢true}
use mathlib.Core.List.{List, [], ◌∷◌}
use Prim.Native.Nat.{ℕ, ◌<◌}
use native.Mathlib.Omega.{arith}
use lib.Dec.{eqb, leb}
use lib.ListN.{length, get_or, take}
use borrow.Author.Tests.{eqb-true, not-true}
use Rattle.wire.proofs.ScanLaws.{and_left, and_right}
use Rattle.tables.specs.Limits.{most_message}
use Rattle.tables.specs.Records.{no_sge, is_inline, receive_sges}
use Rattle.tables.specs.State.{card, no_record}
use Rattle.tables.specs.declared.ReceiveRecord.{ReceiveRecord}
use Rattle.tables.specs.declared.SendRecord.{SendRecord}
use Rattle.tables.specs.declared.Sge.{Sge}
use Rattle.rules.specs.Send.{status_by}
use Rattle.rules.specs.Touch.{takes, fills, range, sge_bytes, sge_total}
use Rattle.rules.specs.declared.Party.{Party}
use Rattle.dma.specs.Grants.{allows_all}
use Rattle.dma.proofs.SgeLaws.{one_bytes, one_total}
use Rattle.delivery.specs.Deliver.{is_single, party_in, own_mask, far_mask, own_by, far_list, status_in, Sending, Delivery}
use Rattle.delivery.specs.declared.meet.Ends.{Ends}
use Rattle.delivery.proofs.RequestLaws.{fills_takes}

-- the first entry of a list
pub first_of : (ss : List Sge) → 0 < length ss → take 1 ss ≡ get_or ss 0 no_sge ∷ []
first_of [] h = absurd (omega arith)
first_of (s ∷ ss) h = refl

module _ (s : SendRecord) (i : is_single s ≡ true) where
  abbrev lone : Bool
  lone = not (is_inline s) && eqb s.count 1

  pub plain : is_inline s ≡ false
  plain = not-true (is_inline s) (and_left (not (is_inline s)) (eqb s.count 1) (and_left lone (not (takes s.opcode)) i))

  pub one : s.count ≡ 1
  one = eqb-true s.count 1 (and_right (not (is_inline s)) (eqb s.count 1) (and_left lone (not (takes s.opcode)) i))

  pub untaken : takes s.opcode ≡ false
  untaken = not-true (takes s.opcode) (and_right lone (not (takes s.opcode)) i)

  pub unfilled : fills s.opcode ≡ false
  unfilled = go (fills s.opcode) refl
    where
      go : (f : Bool) → fills s.opcode ≡ f → f ≡ false
      go true h = absurd (false≢true (sym untaken ∙ fills_takes s.opcode h))
      go false h = refl

  -- its status is not that of a receive that does not take the message
  pub own_fault : (l : List ℕ) (e : Ends) (sges : List Sge) (w : ReceiveRecord) (n st : ℕ) → st ≡ status_in l e s sges w n → eqb st 7 ≡ false
  own_fault l e sges w n st k =
      ap (λ (y : ℕ). eqb y 7) k ∙ go (fills s.opcode) unfilled (leb n most_message) (allows_all (card l) (party_in e.own) (own_mask s.opcode) (own_by s sges))
      (leb n (sge_total (receive_sges w))) (allows_all (card l) (party_in e.far) (far_mask s.opcode) (sge_bytes (far_list s w n)))
    where
      go : (f : Bool) → f ≡ false → (short mine fit theirs : Bool) → eqb (status_by f short mine fit theirs) 7 ≡ false
      go true h short mine fit theirs = absurd (false≢true (sym h))
      go false h true true fit true = refl
      go false h true true fit false = refl
      go false h true false fit theirs = refl
      go false h false mine fit theirs = refl

  module _ (a : Sge) where
    pub list_is : take s.count (a ∷ []) ≡ a ∷ []
    list_is = ap (λ (k : ℕ). take k (a ∷ [])) one

    own_range : own_by s (a ∷ []) ≡ range a.address a.key a.length
    own_range = rw (plain, list_is) (one_bytes a)

    pub far_range : sge_bytes (far_list s no_record a.length) ≡ range s.address s.key a.length
    far_range = rw unfilled (one_bytes (record { address = s.address; length = a.length; key = s.key }))

    pub single_sending : Sending s (a ∷ []) [] a.length
    single_sending =
        record {
          plain = λ e. omega (arith, one);
          short = λ e. absurd (false≢true (sym plain ∙ e));
          total = rw (plain, list_is) (one_total a);
        }

    module _ (l m : List ℕ) (e : Ends) where
      -- the judgements of both sides, as the code has them
      pub own_judged : (p : Party) → p ≡ party_in e.own → (mask : ℕ) → mask ≡ own_mask s.opcode → (b : Bool) →
          b ≡ allows_all (card l) p mask (range a.address a.key a.length) → b ≡ allows_all (card l) (party_in e.own) (own_mask s.opcode) (own_by s (a ∷ []))
      own_judged p who mask is b j = rw own_range (rw (who, is) at j)

      pub far_judged : (p : Party) → p ≡ party_in e.far → (mask : ℕ) → mask ≡ far_mask s.opcode → (b : Bool) →
          b ≡ allows_all (card l) p mask (range s.address s.key a.length) →
          b ≡ allows_all (card l) (party_in e.far) (far_mask s.opcode) (sge_bytes (far_list s no_record a.length))
      far_judged p who mask is b j = rw far_range (rw (who, is) at j)

      -- the delivery of the request whose entries are sges, whatever its inline bytes and the receive are
      pub single_same : (sges : List Sge) → take s.count sges ≡ a ∷ [] → (b : List ℕ) (w : ReceiveRecord) (n : ℕ) → n ≡ a.length → (st : ℕ) (m' : List ℕ)
          → Delivery l m e s (a ∷ []) [] no_record a.length st m' → Delivery l m e s sges b w n st m'
      single_same sges is b w n k st m' d =
          record {
            status = rw (k, unfilled, plain, is) (rw (unfilled, plain, list_is) at d.status);
            memory = rw (k, unfilled, plain, is) (rw (unfilled, plain, list_is) at d.memory);
          }
