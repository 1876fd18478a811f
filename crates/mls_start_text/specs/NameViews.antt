-- What contracts see of the names in a file.
use Rattle.mls_lines.specs.Names.{Names}
use Rattle.mls_start_text.specs.declared.file_names.FileNames.{FileNames}

-- The names in a file. (own)
abbrev pub names_view : FileNames → Names
names_view n =
    record {
      subjects = n.sets.subjects;
      objects = n.sets.objects;
      security = n.schemes.security;
      integrity =
          n.schemes.integrity;
    }
