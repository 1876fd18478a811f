-- What other crates may know of lists of feeds.
use Rattle.std.proofs.Common.{◌≡◌, List, [], ◌∷◌, ◌++◌}
use Rattle.mls_monitor.specs.Feeds.{AllAt}
use Rattle.mls_monitor.specs.declared.feed.Stage.{Stage}

-- a list of feeds at a stage, with one more
module _ {F : Type 0} (at : F → Stage) (stage : Stage) where
  pub at_snoc : (feeds : List F) (f : F) → AllAt at stage feeds → at f ≡ stage → AllAt at stage (feeds ++ f ∷ [])
  at_snoc [] f all is = (is, tt)
  at_snoc (x ∷ feeds) f all is = (all.0, at_snoc feeds f all.1 is)
