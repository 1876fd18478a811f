use Rattle.std.proofs.Common.{◌≡◌, ℕ, List, [], ◌∷◌, Option, Some, refl, sym, ◌∙◌, subst}
use Rattle.mls_durable.specs.History.{Event, Found, IsAtRest}
use Rattle.mls_marked.specs.Serving.{IsQuiet}
use Rattle.mls_tests.proofs.Pushed.{first_file}
use Rattle.mls_tests.proofs.journal.marked_service.serve.Goals as goal

opened : (h : List Event) (bytes : List ℕ) → h ≡ Found bytes ∷ [] → IsAtRest h × IsQuiet h
opened h bytes is = subst (λ (k : List Event). IsAtRest k × IsQuiet k) (sym is) (record { sound = refl; cut = refl; durable = λ disk file left. left }, refl)

one_history : (a b : List Event) → ◌≡◌ {A = Option (List Event)} (Some a) (Some b) → a ≡ b
one_history a b same = cc

pub serve_marked-requires : goal.serve_marked-requires
serve_marked-requires c =
    let bytes = c.requires.file.0 in
    record {
      at_rest = λ h is. (opened h bytes (one_history h (Found bytes ∷ []) (sym is ∙ c.requires.file.1))).0;
      quiet = λ h is. (opened h bytes (one_history h (Found bytes ∷ []) (sym is ∙ c.requires.file.1))).1;
      behind = λ h is. first_file bytes h c.args.monitor.entries c.requires.file.1 is c.requires.empty;
    }
