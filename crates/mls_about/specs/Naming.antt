-- What a word names of which is told.
use Rattle.std.specs.Prelude.{ℕ, Bool, true, false, List, Option, Some, None, Result, Ok, Err}
use Rattle.mls_labels.specs.Reading.{place_of}
use Rattle.mls_lines.specs.Names.{Names}
use Rattle.mls_replay.specs.Naming.{object_word}
use Rattle.mls_replay.specs.declared.question_fault.QuestionFault.{QuestionFault}
use Rattle.mls_replay.specs.declared.question_fault.QuestionFault.TheVariants as fault
use Rattle.mls_about.specs.declared.thing.Thing.{Thing}
use Rattle.mls_about.specs.declared.thing.Thing.TheVariants.{Subject, Object}

-- The object of this number, or a fault where there is none. (own)
abbrev pub or_fault : Option ℕ → QuestionFault → Result Thing QuestionFault
or_fault (Some o) refused = Ok (Object o)
or_fault None refused = Err refused

-- The object that a word names, or a fault where it names none. (own)
abbrev pub object_or : Names → List ℕ → QuestionFault → Result Thing QuestionFault
object_or names word refused = or_fault (object_word names word) refused

-- The subject of this number, or where there is none the object that a word names. (own)
abbrev pub subject_or : Option ℕ → Names → List ℕ → Result Thing QuestionFault
subject_or (Some s) names word = Ok (Subject s)
subject_or None names word = object_or names word fault.Subject

-- What a word names: where it is to be an object that object, else the subject of that name, else the object. (own)
abbrev pub thing_named : Names → List ℕ → Bool → Result Thing QuestionFault
thing_named names word true = object_or names word fault.Object
thing_named names word false = subject_or (place_of names.subjects word) names word
