-- What is made of a short start file.
use Rattle.std.specs.Prelude.{◌≡◌, List, ℕ, Some, Ok}
use Rattle.serde_json.specs.Data.{Data}
use Rattle.mls_start_file.specs.Ties.{Loaded}
use Rattle.mls_start_file.specs.Loading.{load_of_file}
use Rattle.mls_start_text.specs.Looking.{IsReadAs}
use Rattle.mls_start_text.specs.Texts.{SaidFile}
use Rattle.mls_snapshots.specs.Starts.{IsStartBy}
use Rattle.mls_complete.specs.Short.{short_file}

-- A start and its names are what a short start file's tree means: what is left out is filled in, and the rest is as in
-- a start file. (own)
abbrev pub Means : Data → Loaded → Type 0
Means tree meant = (file : SaidFile) × (short_file tree ≡ Some file) × (load_of_file file ≡ Ok meant)

-- A text is a start file that opens with a start's state and names; its objects are numbered by an order. (own)
abbrev pub Writes : Loaded → List ℕ → Type 0
Writes meant text = (order : List ℕ) × IsStartBy meant.names meant.start order text

-- A text is a start file of what a short one's tree means. (own)
abbrev pub CompletesTree : Data → List ℕ → Type 0
CompletesTree tree text = (meant : Loaded) × Means tree meant × Writes meant text

-- A text is a start file of what a short one's bytes mean. (own)
abbrev pub Completes : List ℕ → List ℕ → Type 0
Completes short text = (tree : Data) × IsReadAs short tree × CompletesTree tree text
