-- What is written of what a condition rests on, as it is where the condition holds and as it is where it fails.
use Rattle.std.specs.Prelude.{ℕ, Bool, List, ◌++◌, codes, if◌then◌else◌}
use Rattle.std.specs.Fmt.{decimal}
use Rattle.mls_labels.specs.Label.{Label, dominates}
use Rattle.mls_tables.specs.declared.mode.Mode.{Mode}
use Rattle.mls_requests.specs.ModeWords.{mode_word}
use Rattle.mls_lines.specs.Names.{Names}
use Rattle.mls_explain.specs.declared.ground.Ground.{Ground}
use Rattle.mls_explain.specs.declared.ground.Ground.TheVariants as rests
use Rattle.mls_explain.specs.declared.ground.Relabelling.{Relabelling}
use Rattle.mls_explain.specs.declared.judgement.Judgement.{Judgement}
use Rattle.mls_explain.specs.declared.ground.Place.{Place}
use Rattle.mls_explain.specs.declared.term.Term.TheVariants as term
use Rattle.mls_wording.specs.Wording.{subject_text, object_text, security_text}
use Rattle.mls_explain_text.specs.Terms.{either, worded, dominance_text, equality_text}

-- Whether a subject is permitted a mode of an object. (own)
abbrev pub permission_text : Names → Bool → ℕ → Mode → ℕ → List ℕ
permission_text names holds s x o =
    subject_text names s ++ either holds (codes " is permitted ") (codes " is not permitted ") ++ mode_word x
    ++ codes " of " ++ object_text names o

-- Whether a subject is trusted. (own)
abbrev pub trust_text : Names → Bool → ℕ → List ℕ
trust_text names holds s = subject_text names s ++ either holds (codes " is trusted") (codes " is not trusted")

-- Whether a subject holds write on an object. (own)
abbrev pub writing_text : Names → Bool → ℕ → ℕ → List ℕ
writing_text names holds s o =
    subject_text names s ++ either holds (codes " holds write on ") (codes " does not hold write on ")
    ++ object_text names o

-- Whether a subject holds append or write on an object. (own)
abbrev pub altering_text : Names → Bool → ℕ → ℕ → List ℕ
altering_text names holds s o =
    subject_text names s
    ++ either holds (codes " holds append or write on ") (codes " holds neither append nor write on ")
    ++ object_text names o

-- Whether an object isn't the root. (own)
abbrev pub root_text : Names → Bool → ℕ → List ℕ
root_text names holds o = object_text names o ++ either holds (codes " is not the root") (codes " is the root")

-- That an object has no parent. (own)
abbrev pub parentless_text : Names → ℕ → List ℕ
parentless_text names o = object_text names o ++ codes " has no parent"

-- That a mode doesn't observe. (own)
abbrev pub unobserving_text : Mode → List ℕ
unobserving_text x = mode_word x ++ codes " does not observe"

-- Whether a number is left, and which is next. (own)
abbrev pub number_text : Bool → ℕ → List ℕ
number_text holds n = if holds then worded (codes "next number is ") (decimal n) else codes "no number is left"

-- An object between words, and a label after them. (own)
abbrev pub all_text : Names → List ℕ → ℕ → List ℕ → Label → List ℕ
all_text names before o after l = before ++ object_text names o ++ after ++ security_text names l

-- Whether all that a subject holds meets star at a new label. (own)
abbrev pub holdings_text : Names → Bool → ℕ → Label → List ℕ
holdings_text names holds s l =
    either holds (codes "all that ") (codes "not all that ") ++ subject_text names s
    ++ codes " holds meets star at new " ++ security_text names l

-- Whether each child of an object dominates a new label. (own)
abbrev pub children_text : Names → Bool → ℕ → Label → List ℕ
children_text names holds o l =
    all_text names (either holds (codes "each child of ") (codes "not each child of ")) o (codes " dominates new ") l

-- Whether all that observe an object meet simple security at a new label. (own)
abbrev pub observers_text : Names → Bool → ℕ → Label → List ℕ
observers_text names holds o l =
    all_text names (either holds (codes "all that observe ") (codes "not all that observe ")) o
    (codes " meet simple at new ") l

-- Whether all that hold an object meet star at a new label. (own)
abbrev pub holders_text : Names → Bool → ℕ → Label → List ℕ
holders_text names holds o l =
    all_text names (either holds (codes "all that hold ") (codes "not all that hold ")) o (codes " meet star at new ") l

-- Whether a label that the request names dominates that of an object. (own)
abbrev pub reach_text : Names → Label → Label → ℕ → List ℕ
reach_text names new label o = dominance_text names (dominates new label) (term.Security new) (term.Object label o)

-- What authority to relabel rests on, part by part. (own)
abbrev pub relabelling_text : Names → Relabelling → List ℕ
relabelling_text names p =
    writing_text names p.writes p.subject p.parent ++ codes ", "
    ++ dominance_text names (dominates p.current p.label) (term.Current p.current) (term.Object p.label p.object)
    ++ codes ", " ++ reach_text names p.new p.label p.object

-- What the fit of a label between those of an object's parent and of its children rests on, part by part. (own)
abbrev pub place_text : Names → Place → List ℕ
place_text names p =
    reach_text names p.new p.label p.parent ++ codes ", " ++ children_text names p.below p.object p.new

-- Whether what a condition rests on is told as it is where it holds: as it is without trust, but that trust itself is
-- told as it is. (own)
abbrev pub is_told_on : Bool → Bool → Ground → Bool
is_told_on holds alone (rests.Trust s) = holds
is_told_on holds alone basis = alone

-- The same of a condition. (own)
abbrev pub is_told : Judgement → Bool
is_told j = is_told_on j.condition.holds j.plain.holds j.plain.basis

-- What a condition rests on, where it holds or where it fails. (own)
abbrev pub basis_text : Names → Bool → Ground → List ℕ
basis_text names holds (rests.Permission s x o) = permission_text names holds s x o
basis_text names holds (rests.Unobserving x) = unobserving_text x
basis_text names holds rests.Inert = codes "execute neither observes nor alters"
basis_text names holds (rests.Trust s) = trust_text names holds s
basis_text names holds (rests.Dominance upper lower) = dominance_text names holds upper lower
basis_text names holds (rests.Equality one other) = equality_text names holds one other
basis_text names holds (rests.Writing s o) = writing_text names holds s o
basis_text names holds (rests.Altering s o) = altering_text names holds s o
basis_text names holds (rests.Parentless o) = parentless_text names o
basis_text names holds (rests.Number n) = number_text holds n
basis_text names holds (rests.Root o) = root_text names holds o
basis_text names holds (rests.Holdings s l) = holdings_text names holds s l
basis_text names holds (rests.Relabelling parts) = relabelling_text names parts
basis_text names holds (rests.Children o l) = children_text names holds o l
basis_text names holds (rests.Place place) = place_text names place
basis_text names holds (rests.Observers o l) = observers_text names holds o l
basis_text names holds (rests.Holders o l) = holders_text names holds o l
