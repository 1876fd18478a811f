-- What a comparison of a start file with itself as settings have it tells, and why there is none.
use Rattle.std.specs.Prelude.{◌≡◌, ℕ, List, Option, Some, None, IsTrue}
use Rattle.mls_lines.specs.Names.{Names}
use Rattle.mls_start_file.specs.Says.{SaysStart}
use Rattle.mls_start_file.specs.Ties.{Loaded}
use Rattle.mls_replay.specs.declared.command.CommandFault.{CommandFault}
use Rattle.mls_replay.specs.declared.command.CommandFault.TheVariants as refused
use Rattle.mls_replay.specs.Loads.{RefusesLoad}
use Rattle.mls_replay.specs.Replayed.{RefusesJournal}
use Rattle.mls_rows.specs.declared.form.Form.{Form}
use Rattle.mls_rows.specs.declared.listing.Listing.{Listing}
use Rattle.mls_settings.specs.Settings.{RefusesSet, RefusesSetting, SaysSet, are_right}
use Rattle.mls_settings.specs.declared.setting.Setting.{Setting}
use Rattle.mls_compare.specs.Comparing.{Tells}
use Rattle.mls_compare.specs.declared.asked.Asked.{Asked}
use Rattle.mls_compare.specs.declared.compare_fault.CompareFault.{CompareFault}
use Rattle.mls_compare.specs.declared.compare_fault.CompareFault.TheVariants.{First, Second, Journal, Unset}

-- All settings are right by the names of a first start, a start file says a start as they have it, and the answer tells
-- how that differs from the first. (own)
abbrev pub ComparesSet :
    Asked → Form → List ℕ → List ℕ → Loaded → List ℕ → List Setting → Option (List ℕ) → Listing → Type 0
ComparesSet asked form file other a bytes settings journal listing =
    IsTrue (are_right a.names settings)
    × ((b : Loaded) × SaysSet bytes settings b × Tells asked form file other a b journal listing)

-- A start file says a start, and as settings have it another; and the answer tells how that differs from the first.
-- (own)
abbrev pub ComparesAsSet :
    Asked → Form → List ℕ → List ℕ → List ℕ → List Setting → Option (List ℕ) → Listing → Type 0
ComparesAsSet asked form file other first settings journal listing =
    (a : Loaded) × SaysStart first a × ComparesSet asked form file other a first settings journal listing

-- Why a start file isn't loaded as settings have it: it is refused then, or memory ran out. (own)
abbrev pub RefusesLoadSet : List ℕ → List Setting → CommandFault → Type 0
RefusesLoadSet bytes settings (refused.Load cause) = RefusesSet bytes settings cause
RefusesLoadSet bytes settings (refused.Entry line cause) = ⊥
RefusesLoadSet bytes settings (refused.Replay fault) = ⊥
RefusesLoadSet bytes settings refused.Thread = ⊥
RefusesLoadSet bytes settings refused.Memory = Unit {0}

-- Why a file isn't loaded as settings have it: a setting has a fault, by these names; else the file is refused as they
-- have it; or memory ran out. (own)
abbrev pub RefusesOtherSet : Names → List ℕ → List Setting → CompareFault → Type 0
RefusesOtherSet names bytes settings (First cause) = ⊥
RefusesOtherSet names bytes settings (Second cause) = RefusesLoadSet bytes settings cause
RefusesOtherSet names bytes settings (Journal cause) = ⊥
RefusesOtherSet names bytes settings (Unset cause) = RefusesSetting names settings cause

-- Why a start isn't compared with what its file says as settings have it: a setting has a fault; else the file is
-- refused as they have it; else the journal is; or memory ran out. (own)
abbrev pub RefusesSettings : Loaded → List ℕ → List Setting → Option (List ℕ) → CompareFault → Type 0
RefusesSettings a bytes settings journal (First cause) = cause ≡ refused.Memory
RefusesSettings a bytes settings journal (Second cause) = RefusesLoadSet bytes settings cause
RefusesSettings a bytes settings None (Journal cause) = ⊥
RefusesSettings a bytes settings (Some journal) (Journal cause) =
    (b : Loaded) × SaysSet bytes settings b × RefusesJournal a.start journal cause
RefusesSettings a bytes settings journal (Unset cause) = RefusesSetting a.names settings cause

-- Why a start file isn't compared with itself as settings have it: it is refused; else for one of those reasons. (own)
abbrev pub RefusesAsSet : List ℕ → List Setting → Option (List ℕ) → CompareFault → Type 0
RefusesAsSet first settings journal (First cause) = RefusesLoad first cause
RefusesAsSet first settings journal (Second cause) =
    (a : Loaded) × SaysStart first a × RefusesSettings a first settings journal (Second cause)
RefusesAsSet first settings journal (Journal cause) =
    (a : Loaded) × SaysStart first a × RefusesSettings a first settings journal (Journal cause)
RefusesAsSet first settings journal (Unset cause) =
    (a : Loaded) × SaysStart first a × RefusesSettings a first settings journal (Unset cause)
