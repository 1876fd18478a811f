use Rattle.std.proofs.Common.{◌≡◌, ◌≢◌, Err}
use Rattle.std.proofs.lemmas.Result.{IfErr-at_err}
use Rattle.serde_json.specs.View.{view}
use Rattle.mls_start_file.specs.Loading.{load_of}
use Rattle.mls_start_text.specs.declared.load_fault.LoadFault.{LoadFault}
use Rattle.mls_start_text.specs.declared.load_fault.LoadFault.TheVariants.{Memory}
use Rattle.mls_start_file.proofs.Said.{load_refuses, not_json}
use Rattle.mls_start_file.proofs.loading.read_start.Goals as goal

pub returns-clause-json : goal.returns-clause-json
returns-clause-json c = λ is d read.
    not_json (view c.in_ok-tree.tree) (IfErr-at_err (λ (fault : LoadFault). fault ≢ Memory → load_of (view c.in_ok-tree.tree) ≡ Err fault) is c.load_tree-loaded.ensures.fault (λ e. cc))

pub returns-clause-unread : goal.returns-clause-unread
returns-clause-unread c = λ none other. absurd (none (view c.in_ok-tree.tree) c.in_ok-tree.ensures.ok)

pub returns-clause-refused : goal.returns-clause-refused
returns-clause-refused c = load_refuses c.args.bytes.now (view c.in_ok-tree.tree) c.load_tree-loaded.result c.in_ok-tree.ensures.ok c.load_tree-loaded.ensures.fault
