-- What the words of a flow name.
use Rattle.std.specs.Prelude.{ℕ, Bool, true, false, List, Option, Some, None, Result, Ok, Err}
use Rattle.mls_labels.specs.Reading.{place_of}
use Rattle.mls_lines.specs.Names.{Names}
use Rattle.mls_flows.specs.declared.place.Place.{Place}
use Rattle.mls_flows.specs.declared.place.Place.TheVariants.{Subject, Object}
use Rattle.mls_replay.specs.Naming.{object_word}
use Rattle.mls_replay.specs.declared.question_fault.QuestionFault.{QuestionFault}
use Rattle.mls_replay.specs.declared.question_fault.QuestionFault.TheVariants as fault
use Rattle.mls_flow_text.specs.declared.ends.Ends.{Ends}

-- The object of this number, or a fault where there is none. (own)
abbrev pub or_fault : Option ℕ → QuestionFault → Result Place QuestionFault
or_fault (Some o) refused = Ok (Object o)
or_fault None refused = Err refused

-- The object that a word names, or a fault where it names none. (own)
abbrev pub object_or : Names → List ℕ → QuestionFault → Result Place QuestionFault
object_or names word refused = or_fault (object_word names word) refused

-- The subject of this number, or where there is none the object that a word names. (own)
abbrev pub subject_or : Option ℕ → Names → List ℕ → Result Place QuestionFault
subject_or (Some s) names word = Ok (Subject s)
subject_or None names word = object_or names word fault.Subject

-- The place that a word names: where it is to be an object that object, else the subject of that name, else the object.
-- (own)
abbrev pub place_named : Names → List ℕ → Bool → Result Place QuestionFault
place_named names word true = object_or names word fault.Object
place_named names word false = subject_or (place_of names.subjects word) names word

-- A place, where one is asked for. (own)
abbrev pub place_asked : Result Place QuestionFault → Result (Option Place) QuestionFault
place_asked (Ok p) = Ok (Some p)
place_asked (Err refused) = Err refused

-- The place that a word names, where there is a word. (own)
abbrev pub place_told : Names → Option (List ℕ) → Bool → Result (Option Place) QuestionFault
place_told names (Some word) is_object = place_asked (place_named names word is_object)
place_told names None is_object = Ok None

-- An object, with a place that is named or not. (own)
abbrev pub ends_with : ℕ → Result (Option Place) QuestionFault → Result Ends QuestionFault
ends_with from (Ok to) = Ok (record { from = from; to = to })
ends_with from (Err refused) = Err refused

-- The object that is named, with a place. (own)
abbrev pub ends_from : Option ℕ → Result (Option Place) QuestionFault → Result Ends QuestionFault
ends_from (Some from) to = ends_with from to
ends_from None to = Err fault.Object

-- The ends that words name. (own)
abbrev pub ends_of : Names → List ℕ → Option (List ℕ) → Bool → Result Ends QuestionFault
ends_of names from to is_object = ends_from (object_word names from) (place_told names to is_object)
