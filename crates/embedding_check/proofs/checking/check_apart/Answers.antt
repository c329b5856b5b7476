use Rattle.embedding_check.proofs.Common.{true, ◌≡◌, length, sym, ap, ◌∙◌, IfOk-weaker, IfErr-weaker, IsingContent, IsInside, [], refl, get_or_default, IsFault}
use Rattle.embedding_check.proofs.Faulty.{all_of_places, if_fault}
use Rattle.embedding_check.proofs.checking.check_apart.Given.{Over}
use Rattle.embedding_check.proofs.checking.check_apart.Goals.{In_ok-check_inside}
use Rattle.embedding_check.proofs.checking.check_apart.Goals as goal

-- a chain for each node, none empty, all of qubits
inside : (g : Over) (c : In_ok-check_inside g)
    → IsInside (g.H.Hardware.exists c.args.hardware.now) c.args.ising.now c.args.map.now
inside g c =
    let map = c.args.map.now in
    let counted : length map ≡ length c.args.ising.now.fields =
    sym c.len.ensures ∙ c.if-len-as_slice.false ∙ ap (λ xs. length xs) c.as_slice.ensures
    ∙ ap (λ (x : IsingContent). length x.fields) c.ising.view_is in
    record {
      listed = record {
        listed = record { counted = counted };
        filled = λ k d h e. c.in-None.ensures k h (get_or_default map k [] d h ∙ e);
      };
      within = all_of_places map (λ chain q. g.H.Hardware.exists c.args.hardware.now q ≡ true)
          c.in_ok-check_inside.ensures.within;
    }

pub returns : goal.returns
returns g c =
    let inside = inside g (goal.at.returns g c).In_ok-check_inside in
    record {
      apart = IfOk-weaker c.check_once.result _ _ (λ _ once. record { inside = inside; once = once })
          c.check_once.ensures.once;
      fault = IfErr-weaker c.check_once.result _ _ (λ e h. if_fault e _
          (IsFault (g.H.Hardware.joined c.args.hardware.now) (g.H.Hardware.exists c.args.hardware.now) c.args.ising.now c.args.map.now)
          (λ x p. rw p.3 (inside, (p.0, p.1, p.2, refl))) h)
          c.check_once.ensures.fault;
    }

pub check_once-requires : goal.check_once-requires
check_once-requires g c = λ u hu j hj.
    rw c.qubits.ensures
    (g.met.H.Hardware.below c.args.hardware.now _ (c.in_ok-check_inside.ensures.within u hu j hj))
