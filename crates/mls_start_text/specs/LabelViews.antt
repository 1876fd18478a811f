-- What contracts see of a file whose labels are known.
use Rattle.mls_start_text.specs.Labelling.{Labelled}
use Rattle.mls_start_text.specs.declared.labels.FileLabels.{FileLabels}

-- A file's labels. (own)
abbrev pub labels_view : FileLabels → Labelled
labels_view labels = record { subjects = labels.subjects.items; root = labels.root; children = labels.children.items }
