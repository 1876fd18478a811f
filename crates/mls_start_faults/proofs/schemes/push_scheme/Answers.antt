use Rattle.std.proofs.Common.{◌≡◌, [], ◌++◌, codes, map, length, subst, sym}
use Rattle.std.specs.Prelude.{nat_lt, OnOk, if◌then◌else◌}
use Rattle.mls_labels.specs.declared.limits.TheConstants.{MAX_LEVELS, MAX_CATEGORIES}
use Rattle.mls_start_text.specs.Views.{scheme_view}
use Rattle.mls_start_faults.specs.Naming.{count_place, scheme_places}
use Rattle.mls_start_faults.specs.Places.{located_view}
use Rattle.mls_start_faults.proofs.schemes.push_scheme.Goals as goal

pub returns-in-TooManyLevels : goal.returns-in-TooManyLevels
returns-in-TooManyLevels c =
    let name = c.args.name.now in
    let old = map located_view c.args.found.now.items in
    let counted =
    subst (λ names. OnOk c.push_many.result (map located_view c.push_many.new.found.items ≡ old ++ (if nat_lt MAX_LEVELS (length (map (λ text. text.now) names)) then count_place name (codes "levels") (codes "more than 16") else [])))
    c.deref.ensures.value c.push_many.ensures in
    subst (λ fault. OnOk c.push_many.result (map located_view c.push_many.new.found.items ≡ old ++ scheme_places name fault (scheme_view c.args.scheme.now))) (sym c.in-TooManyLevels.is) counted

pub returns-in-TooManyCategories : goal.returns-in-TooManyCategories
returns-in-TooManyCategories c =
    let name = c.args.name.now in
    let old = map located_view c.args.found.now.items in
    let counted =
    subst (λ names. OnOk c.push_many-in-TooManyCategories.result (map located_view c.push_many-in-TooManyCategories.new.found.items ≡ old ++ (if nat_lt MAX_CATEGORIES (length (map (λ text. text.now) names)) then count_place name (codes "categories") (codes "more than 256") else [])))
    c.deref-in-TooManyCategories.ensures.value c.push_many-in-TooManyCategories.ensures in
    subst (λ fault. OnOk c.push_many-in-TooManyCategories.result (map located_view c.push_many-in-TooManyCategories.new.found.items ≡ old ++ scheme_places name fault (scheme_view c.args.scheme.now))) (sym c.in-TooManyCategories.is) counted
