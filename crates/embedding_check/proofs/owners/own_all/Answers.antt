use Rattle.embedding_check.proofs.Common.{All, length, ◌<◌, sym, subst, ◌∙◌, arith}
use Rattle.embedding_check.proofs.Owning.{own_more, owned_all}
use Rattle.embedding_check.proofs.Passing.{chain_within}
use Rattle.embedding_check.proofs.owners.own_all.Goals as goal

pub own-requires : goal.own-requires
own-requires c =
    subst (λ n. All (λ q. q < n) c.list.result.now) (sym c.loop-node.invariant.len)
    (chain_within (length c.args.owners.now) c.args.chains.now c.loop-node.node c.list.result.now
    c.list.ensures.listed (omega arith) c.requires.within)

pub loop-node-preserved : goal.loop-node-preserved
loop-node-preserved c =
    record {
      len = c.own.ensures.len ∙ c.loop-node.invariant.len;
      owned = own_more _ c.loop-node.owners _ _ c.requires.once (omega arith) c.requires.few c.loop-node.invariant.owned c.own.ensures.len
          (rw (← c.list.ensures.listed) c.own.ensures.inside)
          (rw (← c.list.ensures.listed) c.own.ensures.outside);
    }

pub returns-clause-owners : goal.returns-clause-owners
returns-clause-owners c =
    owned_all c.args.chains.now c.loop-node.owners c.loop-node.node (omega arith) c.loop-node.invariant.owned
