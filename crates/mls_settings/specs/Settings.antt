-- Members of a start file that are set to other texts, and what the file says then.
use Rattle.std.specs.Prelude.{◌≡◌, ℕ, Bool, true, false, ◌||◌, ◌&&◌, List, [], ◌∷◌, ◌++◌, codes, map, take}
use Rattle.std.specs.Prelude.{Option, Some, Result, Ok, Err, is_some, slice_get, IsTrue, if◌then◌else◌}
use Rattle.std.specs.List.{list_any, list_all}
use Rattle.std.specs.Str.{bytes_eq}
use Rattle.serde_json.specs.Data.{Data}
use Rattle.mls_labels.specs.Reading.{label_at, place_of}
use Rattle.mls_labels.specs.Label.{Label as LabelValue}
use Rattle.mls_labels.specs.declared.label_fault.LabelFault.{LabelFault}
use Rattle.mls_lines.specs.Names.{Names}
use Rattle.mls_requests.specs.Words.{with_word}
use Rattle.mls_start_file.specs.Loading.{load_of_file, needing}
use Rattle.mls_start_file.specs.Ties.{Loaded}
use Rattle.mls_start_text.specs.Looking.{IsReadAs}
use Rattle.mls_start_text.specs.Texts.{SaidChild, SaidFile, SaidObject, SaidSubject, file_of}
use Rattle.mls_start_text.specs.declared.load_fault.LoadFault.{LoadFault}
use Rattle.mls_start_text.specs.declared.load_fault.LoadFault.TheVariants as load
use Rattle.mls_settings.specs.declared.setting.Member.{Member}
use Rattle.mls_settings.specs.declared.setting.Member.TheVariants.{Maximum, Current, Integrity, Trusted, Security}
use Rattle.mls_settings.specs.declared.setting.Setting.{Setting}
use Rattle.mls_settings.specs.declared.judging.SettingFault.{SettingFault}
use Rattle.mls_settings.specs.declared.judging.SettingFault.TheVariants.{Name, Label}

-- The word of a member. (own)
abbrev pub member_word : Member → List ℕ
member_word Maximum = codes "maximum"
member_word Current = codes "current"
member_word Integrity = codes "integrity"
member_word Trusted = codes "trusted"
member_word Security = codes "security"

-- All members, in the order in which a word is looked for. (own)
abbrev pub all_members : List Member
all_members = Maximum ∷ Current ∷ Integrity ∷ Trusted ∷ Security ∷ []

-- The member that has this word. (own)
abbrev pub read_member : List ℕ → Option Member
read_member word = with_word member_word all_members word

-- The word of a setting: a name, a dot, a member, `=` and a value. (own)
abbrev pub setting_word : Setting → List ℕ
setting_word s = s.name.now ++ 46 ∷ member_word s.member ++ 61 ∷ s.value.now

-- A subject with a member set to a text. (own)
abbrev pub subject_with : Member → List ℕ → SaidSubject → SaidSubject
subject_with Maximum value s = record s { maximum = value }
subject_with Current value s = record s { current = value }
subject_with Integrity value s = record s { integrity = value }
subject_with Trusted value s = record s { trusted = bytes_eq value (codes "true") }
subject_with Security value s = s

-- An object with a member set to a text. (own)
abbrev pub object_with : Member → List ℕ → SaidObject → SaidObject
object_with Maximum value o = o
object_with Current value o = o
object_with Integrity value o = record o { integrity = value }
object_with Trusted value o = o
object_with Security value o = record o { security = value }

-- A subject as a setting has it, where it is the one of the setting's name. (own)
abbrev pub set_subject : Setting → SaidSubject → SaidSubject
set_subject c s = if bytes_eq s.name c.name.now then subject_with c.member c.value.now s else s

-- An object as a setting has it, where it is the one of the setting's name. (own)
abbrev pub set_object : Setting → SaidObject → SaidObject
set_object c o = if bytes_eq o.name c.name.now then object_with c.member c.value.now o else o

-- An object below the root as a setting has it. (own)
abbrev pub set_child : Setting → SaidChild → SaidChild
set_child c child = record child { object = set_object c child.object }

-- A file has a subject of a name. (own)
abbrev pub has_subject : SaidFile → List ℕ → Bool
has_subject file name = list_any (λ s. bytes_eq s.name name) file.subjects

-- A setting is of a subject of a file: by its member, or where both kinds have it, by its name. (own)
abbrev pub is_of_subject : SaidFile → Member → List ℕ → Bool
is_of_subject file Maximum name = true
is_of_subject file Current name = true
is_of_subject file Integrity name = has_subject file name
is_of_subject file Trusted name = true
is_of_subject file Security name = false

-- A file as a setting has it. (own)
abbrev pub set_file : SaidFile → Setting → SaidFile
set_file file c =
    if is_of_subject file c.member c.name.now then record file { subjects = map (set_subject c) file.subjects }
    else record file { root = set_object c file.root; children = map (set_child c) file.children }

-- A file as settings have it, one after the other. (own)
unfoldable pub set_all : SaidFile → List Setting → SaidFile
set_all file [] = file
set_all file (c ∷ rest) = set_all (set_file file c) rest

-- What a tree says as settings have it. (own)
abbrev pub load_set : List Setting → Data → Result Loaded LoadFault
load_set settings d = needing (file_of d) load.Members (λ file. load_of_file (set_all file settings))

-- The bytes of a start file say these names and this start, as settings have it. (own)
abbrev pub SaysSet : List ℕ → List Setting → Loaded → Type 0
SaysSet bytes settings loaded = (d : Data) × IsReadAs bytes d × (load_set settings d ≡ Ok loaded)

-- Why bytes say no start as settings have it: they are no JSON, or what they are read as has this fault then. (own)
abbrev pub RefusesSet : List ℕ → List Setting → LoadFault → Type 0
RefusesSet bytes settings load.Json = (d : Data) → ¬ IsReadAs bytes d
RefusesSet bytes settings load.Members = (d : Data) × IsReadAs bytes d × (load_set settings d ≡ Err load.Members)
RefusesSet bytes settings (load.Scheme cause) =
    (d : Data) × IsReadAs bytes d × (load_set settings d ≡ Err (load.Scheme cause))
RefusesSet bytes settings load.Name = (d : Data) × IsReadAs bytes d × (load_set settings d ≡ Err load.Name)
RefusesSet bytes settings load.Label = (d : Data) × IsReadAs bytes d × (load_set settings d ≡ Err load.Label)
RefusesSet bytes settings load.Unknown = (d : Data) × IsReadAs bytes d × (load_set settings d ≡ Err load.Unknown)
RefusesSet bytes settings (load.Start cause) =
    (d : Data) × IsReadAs bytes d × (load_set settings d ≡ Err (load.Start cause))
RefusesSet bytes settings load.Memory = ⊥

-- The name of a setting is the name of something that has its member. (own)
abbrev pub is_named : Names → Member → List ℕ → Bool
is_named names Maximum name = is_some (place_of names.subjects name)
is_named names Current name = is_some (place_of names.subjects name)
is_named names Integrity name = is_some (place_of names.subjects name) || is_some (place_of names.objects name)
is_named names Trusted name = is_some (place_of names.subjects name)
is_named names Security name = is_some (place_of names.objects name)

-- A text spells a label. (own)
abbrev pub is_read : Result LabelValue LabelFault → Bool
is_read (Ok label) = true
is_read (Err fault) = false

-- The value of a setting is one of its member, where that is a label the text of one. (own)
abbrev pub is_value : Names → Member → List ℕ → Bool
is_value names Maximum value = is_read (label_at names.security value)
is_value names Current value = is_read (label_at names.security value)
is_value names Integrity value = is_read (label_at names.integrity value)
is_value names Trusted value = true
is_value names Security value = is_read (label_at names.security value)

-- A setting names something that has its member, and its value is one of that. (own)
abbrev pub is_right : Names → Setting → Bool
is_right names c = is_named names c.member c.name.now && is_value names c.member c.value.now

-- All settings are right. (own)
abbrev pub are_right : Names → List Setting → Bool
are_right names settings = list_all (is_right names) settings

-- The setting at a place has a name that names nothing that has its member, and those before it are right. (own)
abbrev pub HasBadName : Names → List Setting → ℕ → Type 0
HasBadName names settings k =
    IsTrue (are_right names (take k settings))
    × ((c : Setting) × (slice_get settings k ≡ Some c) × (is_named names c.member c.name.now ≡ false))

-- The setting at a place has a name that is right and a value that is none of its member, and those before it are
-- right. (own)
abbrev pub HasBadLabel : Names → List Setting → ℕ → Type 0
HasBadLabel names settings k =
    IsTrue (are_right names (take k settings))
    × ((c : Setting) × (slice_get settings k ≡ Some c) × IsTrue (is_named names c.member c.name.now)
    × (is_value names c.member c.value.now ≡ false))

-- Why settings aren't made: the first with a fault has this one, in its name or else in its value. (own)
abbrev pub RefusesSetting : Names → List Setting → SettingFault → Type 0
RefusesSetting names settings (Name k) = HasBadName names settings k
RefusesSetting names settings (Label k) = HasBadLabel names settings k
