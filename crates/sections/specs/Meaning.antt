-- What the values of this crate mean.
use Rattle.std.specs.Prelude.{List, map, take}
use Rattle.sections.specs.declared.section.Section.{Section}
use Rattle.sections.specs.declared.listing.Listing.{Listing}
use Rattle.sections.specs.Entries.{Described}

abbrev pub meaning_of : Section → Described
meaning_of s = record {
  cipher = s.cipher;
  mode = s.mode;
  bits = s.bits;
  first_page = s.first_page;
  length = s.length;
  sync = s.sync;
  tag = s.tag;
  offset = s.offset;
}

-- the sections of a listing, in order
abbrev pub sections_in : Listing → List Described
sections_in l = map meaning_of (take l.count l.sections)
