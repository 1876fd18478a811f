use Rattle.std.proofs.Common.{[]}
use Rattle.mls_scripts.proofs.Progress.{serves_nothing, ends_start}
use Rattle.mls_scripts.proofs.serving.serve.Goals as goal

pub returns-in_default-clause-served : goal.returns-in_default-clause-served
returns-in_default-clause-served g c = ([], serves_nothing _ _ _ _ _)

pub returns-clause-start : goal.returns-clause-start
returns-clause-start g c = ends_start _ _ _ _ _ _ _ _ _ c.serve_pieces.ensures.ends

pub returns-clause-served : goal.returns-clause-served
returns-clause-served g c = (c.serve_pieces.new.served.answering.vars.bound, rw c.new-vars.ensures at c.serve_pieces.ensures.ends)
