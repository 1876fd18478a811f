-- The members of an explanation, of a request in the domain and of one outside.
use Rattle.std.proofs.Common.{◌≡◌, false, List, Result, Ok, Err, sym, ap, subst, IsTrue}
use Rattle.json.specs.Written.{Written}
use Rattle.mls_lines.specs.Names.{Names}
use Rattle.mls_requests.specs.declared.request.Request.{Request}
use Rattle.mls_state.specs.State.{State}
use Rattle.mls_rules.specs.Rules.{is_defined}
use Rattle.mls_rows.specs.Members.{Adds}
use Rattle.mls_explain.specs.Unknowns.{unknowns}
use Rattle.mls_explain.specs.declared.unknown.Unknown.{Unknown}
use Rattle.mls_explain_text.specs.ExplainMembers.{undefined_members}
use Rattle.mls_explain_text.specs.ExplainRows.{AddsMembers, MembersOfDefined, MembersWhether}

-- what explains a request in the domain explains it
pub whether_defined : {V E : Type 0} (names : Names) (v : State) (r : Request) (result : Result V E) (old new : Written) → IsTrue (is_defined v r)
    → AddsMembers result old new (MembersOfDefined names v r) → AddsMembers result old new (MembersWhether (is_defined v r) names v r)
whether_defined names v r result old new is added = subst (λ b. AddsMembers result old new (MembersWhether b names v r)) (sym is) added

-- what names all that isn't there explains a request outside the domain
pub whether_undefined : {V E : Type 0} (names : Names) (v : State) (r : Request) (found : List Unknown) (result : Result V E) (old new : Written) → is_defined v r ≡ false
    → found ≡ unknowns v r → Adds result old new (undefined_members names found) → AddsMembers result old new (MembersWhether (is_defined v r) names v r)
whether_undefined {V} {E} names v r found (Ok done) old new isnt all added =
    subst (λ b. AddsMembers {V = V} {E = E} (Ok done) old new (MembersWhether b names v r)) (sym isnt) (undefined_members names found, ap (undefined_members names) all, added.0, added.1)
whether_undefined {V} {E} names v r found (Err fault) old new isnt all added = tt
