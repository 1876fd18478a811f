use Rattle.std.proofs.Common.{ap, ◌∙◌, map, Some}
use Rattle.serde_json.specs.View.{view}
use Rattle.mls_start_text.proofs.Trees.{list_found}
use Rattle.mls_complete.proofs.looking.list_in.Goals as goal

pub returns : goal.returns
returns c = ap (λ vs. Some (map view vs)) c.as_slice.ensures.value ∙ list_found c.args.key.now _ _ c.in_ok-as_array.field-0.now.items c.in_ok-get.ensures c.in_ok-as_array.ensures
