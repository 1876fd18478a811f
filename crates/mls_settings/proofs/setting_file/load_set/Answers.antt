use Rattle.serde_json.specs.View.{view}
use Rattle.mls_settings.proofs.Refused.{set_refuses}
use Rattle.mls_settings.proofs.setting_file.load_set.Goals as goal

pub returns-clause-fault : goal.returns-clause-fault
returns-clause-fault c =
    set_refuses c.args.bytes.now c.args.settings.now (view c.in_ok-tree.tree) c.load_tree-loaded.result c.in_ok-tree.ensures.ok
    c.load_tree-loaded.ensures.fault
