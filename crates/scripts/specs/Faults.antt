-- The faults of a line in words.
use Rattle.std.specs.Prelude.{ℕ, List, codes}
use Rattle.scripts.specs.declared.fault.LineFault.{LineFault}
use Rattle.scripts.specs.declared.fault.LineFault.TheVariants.{UnknownWord, LateSection, Section, Frame, Lost, NothingToRepeat, Give, Erase, Program, Alone, Number, Bit, NoSuchByte}

-- the printed form
abbrev pub fault_text : LineFault → List ℕ
fault_text UnknownWord = codes "the first word is section, frame, drop, repeat, give, erase, program, close, reopen or verify"
fault_text LateSection = codes "section stands once, before all other lines"
fault_text Section = codes "section takes the number of a section"
fault_text Frame = codes "frame takes a first block and a count, and then nothing or flip, a byte and a bit"
fault_text Lost = codes "drop takes a first block and a count"
fault_text NothingToRepeat = codes "no frame stands before it"
fault_text Give = codes "give takes the number of a block"
fault_text Erase = codes "erase takes the number of a page of the target"
fault_text Program = codes "program takes the number of an image page, 0 to 65535"
fault_text Alone = codes "repeat, close, reopen and verify take no other word"
fault_text Number = codes "a number is written in decimal digits, 0 to 4294967295"
fault_text Bit = codes "a bit is 0 to 7"
fault_text NoSuchByte = codes "the frame has no such byte to flip"
