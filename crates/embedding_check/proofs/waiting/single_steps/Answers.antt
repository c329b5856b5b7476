use Rattle.embedding_check.proofs.Common.{◌≡◌, ◌+◌, length, refl, ap, ◌∙◌, length_push}
use Rattle.embedding_check.proofs.Faulty.{pushed_more}
use Rattle.embedding_check.proofs.waiting.single_steps.Goals as goal

pub loop-k-preserved : goal.loop-k-preserved
loop-k-preserved c =
    let k = c.loop-k.k in
    let pushed = c.in_ok-push.ensures.items in
    record {
      len = ap length pushed ∙ length_push _ (k + 1) ∙ ap (λ n. n + 1) c.loop-k.invariant.len;
      value = rw pushed
          (pushed_more (λ i x. x ≡ i + 1) _ k (k + 1) 0 c.loop-k.invariant.len c.loop-k.invariant.value refl);
    }
