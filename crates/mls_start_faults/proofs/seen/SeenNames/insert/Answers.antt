use Rattle.std.proofs.Common.{ap, ◌∙◌, ◌++◌, ◌∷◌, [], cond, not, map, string_bytes}
use Rattle.std.specs.List.{list_any}
use Rattle.std.specs.Str.{bytes_eq}
use Rattle.mls_labels.proofs.NamePlaces.{was_added, kept_with}
use Rattle.mls_start_faults.proofs.seen.SeenNames.insert.Goals as goal

pub returns-clause-added : goal.returns-clause-added
returns-clause-added c =
    c.in_ok-added.ensures.added
    ∙ was_added c.self.inside.names.keys c.in_ok-text.text c.args.name.now c.in_ok-text.ensures.ok
    ∙ ap (λ names. not (list_any (bytes_eq c.args.name.now) names)) c.self.view_is

pub returns-clause-kept : goal.returns-clause-kept
returns-clause-kept c =
    ap (map string_bytes) c.in_ok-added.ensures.keys
    ∙ kept_with c.self.inside.names.keys c.in_ok-text.text c.args.name.now c.in_ok-added.added c.in_ok-text.ensures.ok c.in_ok-added.ensures.added
    ∙ ap (λ names. cond c.in_ok-added.added (names ++ c.args.name.now ∷ []) names) c.self.view_is
