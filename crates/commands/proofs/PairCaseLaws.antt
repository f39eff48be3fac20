-- The cases of the commands of queue pairs: which tests passed and which failed gives what the function owes. Assumes nothing.
use mathlib.Core.Path.{◌≡◌, refl, ap, ◌∙◌}
use mathlib.Core.Bool.{Bool, true, false, cond, not, ◌&&◌, ◌||◌}
use mathlib.Core.List.{List, [], ◌∷◌}
use mathlib.Core.Option.{some}
use Prim.Native.Nat.{ℕ, ◌+◌, ◌≤◌, ◌<◌}
use native.Mathlib.Omega.{arith}
use lib.Dec.{eqb, leb}
use borrow.Author.Tests.{le-leb, lt-leb}
use Rattle.wire.specs.Checks.{Check, ◌if◌, refusal, has, only}
use Rattle.wire.proofs.ScanLaws.{and_left, and_right}
use Rattle.wire.specs.Table.{row_at}
use Rattle.tables.specs.Card.{cq_live, Qp}
use Rattle.validate.specs.Accept.{is_state}
use Rattle.tables.specs.State.{card, pair_at}
use Rattle.tables.specs.Layout.{qp_t}
use Rattle.tables.specs.Limits.{pd_count, cq_count, qp_count, most_access}
use Rattle.tables.proofs.ObjectLaws.{pd_below, cq_below, qp_below, qp_flag, qp_row}
use Rattle.tables.specs.Commands.{Command}
use Rattle.validate.specs.Search.{free_qpn}
use Rattle.tables.specs.declared.Ack.TheVariants as ack
use Rattle.tables.specs.declared.CreateQp.{CreateQp}
use Rattle.tables.specs.declared.ModifyQp.{ModifyQp}
use Rattle.rules.specs.Control.{command_checks, command_ack, is_move, state_bit, rights_bit, dest_bit}
use Rattle.rules.specs.Bytes.{command_bytes}
use Rattle.commands.specs.Control.{Ran, create_fine, create_live, modify_bad}
use Rattle.std.specs.Prelude.{Ok, Err}
use Rattle.tables.specs.declared.refusal.Refusal.TheVariants.{BadField, Full, NotLive, WrongState}
use Rattle.commands.proofs.CaseLaws.{ran_refused, ran_done, over}

-- ---- the tests of modify QP
module _ (r : ModifyQp) where
  -- the last tests of answer 4
  abbrev unnamed : Bool
  unnamed = not (has dest_bit r.mask) && eqb r.state 2

  abbrev misnamed : Bool
  misnamed = has dest_bit r.mask && (leb qp_count r.dest || eqb r.dest r.qpn)

  abbrev misflagged : Bool
  misflagged = has rights_bit r.mask && not (only most_access r.flags)

module _ (l : List ℕ) where
  -- ---- create QP
  module _ (r : CreateQp) where
    create_tests : refusal (command_checks (card l) (Command.create_qp r))
        ≡ cond (create_fine r) (cond (create_live (card l) r) (refusal (8 if leb qp_count (free_qpn (card l)) ∷ [])) (some 2)) (some 4)
    unfolding command_checks
    create_tests =
        rw (over 1 r.signal)
        (five (eqb r.kind 2) (leb r.signal 1) ((card l).pd r.pd) (cq_live (card l) r.scq) (cq_live (card l) r.rcq)
        (8 if leb qp_count (free_qpn (card l)) ∷ []))
      where
        five : (k s p x y : Bool) (cs : List Check) → refusal (4 if not k ∷ 4 if not s ∷ 2 if not p ∷ 2 if not x ∷ 2 if not y ∷ cs)
            ≡ cond (k && s) (cond (p && x && y) (refusal cs) (some 2)) (some 4)
        five false s p x y cs = refl
        five true false p x y cs = refl
        five true true false x y cs = refl
        five true true true false y cs = refl
        five true true true true false cs = refl
        five true true true true true cs = refl

    pub create_qp_fields : create_fine r ≡ false → Ran l (some (Command.create_qp r)) (Err BadField) l
    create_qp_fields e = ran_refused l (Command.create_qp r) 4 (create_tests ∙ rw e)

    module _ (good : create_fine r ≡ true) where
      pub create_qp_dead : create_live (card l) r ≡ false → Ran l (some (Command.create_qp r)) (Err NotLive) l
      create_qp_dead e = ran_refused l (Command.create_qp r) 2 (create_tests ∙ rw (good, e))

      module _ (live : create_live (card l) r ≡ true) (n : ℕ) (is : n ≡ free_qpn (card l)) where
        pub create_qp_full : qp_count ≤ n → Ran l (some (Command.create_qp r)) (Err Full) l
        create_qp_full h = ran_refused l (Command.create_qp r) 8 (create_tests ∙ rw (good, live, le-leb qp_count (free_qpn (card l)) (omega arith)))

        pub create_qp_done : n < qp_count → (l' : List ℕ) → l' ≡ command_bytes l (Command.create_qp r) → Ran l (some (Command.create_qp r)) (Ok (ack.Number n)) l'
        unfolding command_ack
        create_qp_done h l' s =
            ran_done l (Command.create_qp r) (create_tests ∙ rw (good, live, lt-leb qp_count (free_qpn (card l)) (omega arith))) (Ok (ack.Number n)) l'
            (ap (λ (x : ℕ). Ok (ack.Number x)) is) s

    -- the numbers that a new queue pair names
    pub create_small : create_live (card l) r ≡ true → (r.pd < 256) × (r.scq < 256) × (r.rcq < 256)
    create_small live =
        let p : Bool = (card l).pd r.pd in
        let x : Bool = cq_live (card l) r.scq in
        let y : Bool = cq_live (card l) r.rcq in
        let e : (p && x) ≡ true = and_left (p && x) y live in
        let a : r.pd < pd_count = pd_below l r.pd (and_left p x e) in
        let b : r.scq < cq_count = cq_below l r.scq (and_right p x e) in
        let c : r.rcq < cq_count = cq_below l r.rcq (and_right (p && x) y live) in
        (omega arith, omega arith, omega arith)

  -- ---- modify QP
  module _ (r : ModifyQp) where
    abbrev q : ℕ
    q = r.qpn

    modify_tests : refusal (command_checks (card l) (Command.modify_qp r))
        ≡ cond (modify_bad r) (some 4) (refusal (2 if not ((card l).qp q).live ∷ 3 if not (is_move ((card l).qp q).state r.state) ∷ []))
    unfolding command_checks
    modify_tests =
        eight (not (only (state_bit + rights_bit + dest_bit) r.mask)) (not (has state_bit r.mask)) (not (is_state r.state))
        (not (eqb r.pad0 0 && eqb r.pad1 0 && eqb r.pad2 0)) (has dest_bit r.mask && not (eqb r.state 2))
        (unnamed r) (misnamed r) (misflagged r)
        (2 if not ((card l).qp q).live ∷ 3 if not (is_move ((card l).qp q).state r.state) ∷ [])
      where
        eight : (s t u v w x y z : Bool) (cs : List Check)
            → refusal (4 if s ∷ 4 if t ∷ 4 if u ∷ 4 if v ∷ 4 if w ∷ 4 if x ∷ 4 if y ∷ 4 if z ∷ cs)
            ≡ cond (s || t || u || v || w || x || y || z) (some 4) (refusal cs)
        eight true t u v w x y z cs = refl
        eight false true u v w x y z cs = refl
        eight false false true v w x y z cs = refl
        eight false false false true w x y z cs = refl
        eight false false false false true x y z cs = refl
        eight false false false false false true y z cs = refl
        eight false false false false false false true z cs = refl
        eight false false false false false false false true cs = refl
        eight false false false false false false false false cs = refl

    pub modify_fields : modify_bad r ≡ true → Ran l (some (Command.modify_qp r)) (Err BadField) l
    modify_fields e = ran_refused l (Command.modify_qp r) 4 (modify_tests ∙ rw e)

    module _ (good : modify_bad r ≡ false) where
      pub modify_dead : ((card l).qp q).live ≡ false → Ran l (some (Command.modify_qp r)) (Err NotLive) l
      modify_dead e = ran_refused l (Command.modify_qp r) 2 (modify_tests ∙ rw (good, e))

      module _ (live : ((card l).qp q).live ≡ true) where
        state_is : ((card l).qp q).state ≡ (row_at qp_t l q).state
        unfolding pair_at
        state_is = ap (λ (x : Qp). x.state) (qp_row l q (qp_below l q live) (qp_flag l q live))

        pub modify_stays : is_move (row_at qp_t l q).state r.state ≡ false → Ran l (some (Command.modify_qp r)) (Err WrongState) l
        modify_stays e = ran_refused l (Command.modify_qp r) 3 (modify_tests ∙ rw (good, live, state_is, e))

        pub modify_done : is_move (row_at qp_t l q).state r.state ≡ true → (l' : List ℕ) → l' ≡ command_bytes l (Command.modify_qp r)
            → Ran l (some (Command.modify_qp r)) (Ok ack.Done) l'
        unfolding command_ack
        modify_done e l' s = ran_done l (Command.modify_qp r) (modify_tests ∙ rw (good, live, state_is, e)) (Ok ack.Done) l' refl s
