-- The texts that the program prints. Own. A line ends with one byte 0A.
use Rattle.std.specs.Prelude.{ℕ, ◌-◌, false, List, [], ◌∷◌, ◌++◌, length, replicate, codes}
use Rattle.std.specs.List.{flat_map}
use Rattle.std.specs.Fmt.{digits, decimal}
use Rattle.erim_defs.specs.declared.found.SeqKind.{SeqKind}
use Rattle.erim_defs.specs.declared.found.SeqKind.TheVariants.{Wrpkru, Xrstor}
use Rattle.erim_defs.specs.declared.found.Found.{Found}
use Rattle.erim_defs.specs.declared.fault.ImageFault.{ImageFault}
use Rattle.erim_defs.specs.declared.fault.ImageFault.TheVariants.{Short, Magic, Class, FileType}
use Rattle.erim_defs.specs.declared.fault.ImageFault.TheVariants.{Machine, HeaderSize, TooMany}
use Rattle.erim_defs.specs.declared.fault.ImageFault.TheVariants.{NotStatic, SegmentRange}
use Rattle.erim_defs.specs.declared.fault.ImageFault.TheVariants.{SharedPage, NoteShape}
use Rattle.erim_defs.specs.declared.fault.ImageFault.TheVariants.{NoteVersion, BadRecord}
use Rattle.erim_defs.specs.declared.fault.ImageFault.TheVariants.{TextNotExec, DataRange}
use Rattle.erim_defs.specs.declared.fault.ImageFault.TheVariants.{EntryNotTrusted, EntryPoint}
use Rattle.erim_defs.specs.declared.fault.ImageFault.TheVariants.{BadFunction, Memory}
use Rattle.erim_defs.specs.declared.journal.JournalFault.{JournalFault}
use Rattle.erim_defs.specs.declared.journal.JournalFault.TheVariants as journal

abbrev pub line : List ℕ → List ℕ
line text = text ++ 10 ∷ []

-- at least a given number of digits, with zeros in front where there are fewer
abbrev pub zero_filled : ℕ → List ℕ → List ℕ
zero_filled width ds = replicate (width - length ds) 48 ++ ds

-- `0x` and at least a given number of lower-case hexadecimal digits
abbrev pub hex_text : ℕ → ℕ → List ℕ
hex_text width n = codes "0x" ++ zero_filled width (digits 16 false n)

abbrev pub address_text : ℕ → List ℕ
address_text a = hex_text 12 a

abbrev pub pkru_text : ℕ → List ℕ
pkru_text pkru = hex_text 8 pkru

abbrev pub kind_text : SeqKind → List ℕ
kind_text Wrpkru = codes "wrpkru"
kind_text Xrstor = codes "xrstor"

unfoldable pub unsafe_line : Found → List ℕ
unsafe_line o = line (codes "unsafe " ++ kind_text o.kind ++ codes " at " ++ address_text o.at)

-- what `inspect` prints of an unsafe list: a line for each element, and how many there are
unfoldable pub inspect_text : List Found → List ℕ
inspect_text os = flat_map unsafe_line os ++ line (codes "unsafe " ++ decimal (length os))

-- what names a fault of an image
abbrev pub fault_text : ImageFault → List ℕ
fault_text (Short at) = codes "image short at " ++ decimal at
fault_text Magic = codes "image magic"
fault_text Class = codes "image class"
fault_text FileType = codes "image type"
fault_text Machine = codes "image machine"
fault_text HeaderSize = codes "image header size"
fault_text (TooMany count) = codes "image headers " ++ decimal count
fault_text (NotStatic index) = codes "image header " ++ decimal index ++ codes " not static"
fault_text (SegmentRange index) = codes "image segment " ++ decimal index ++ codes " range"
fault_text (SharedPage index) = codes "image segment " ++ decimal index ++ codes " shares a page"
fault_text (NoteShape at) = codes "image note at " ++ decimal at
fault_text NoteVersion = codes "image note version"
fault_text (BadRecord index) = codes "image record " ++ decimal index
fault_text (TextNotExec index) = codes "image record " ++ decimal index ++ codes " text"
fault_text (DataRange index) = codes "image record " ++ decimal index ++ codes " data"
fault_text (EntryNotTrusted index) = codes "image record " ++ decimal index ++ codes " entry"
fault_text (BadFunction index) = codes "image function " ++ decimal index
fault_text EntryPoint = codes "image entry point"
fault_text Memory = codes "out of memory"

-- what names a fault of a journal
abbrev pub journal_fault_text : JournalFault → List ℕ
journal_fault_text (journal.Short at) = codes "journal short at " ++ decimal at
journal_fault_text journal.Magic = codes "journal magic"
journal_fault_text journal.Budget = codes "journal budget"
journal_fault_text journal.Frames = codes "journal frames"
journal_fault_text journal.Count = codes "journal count"
journal_fault_text (journal.Trailing at) = codes "journal trailing at " ++ decimal at
journal_fault_text (journal.BadEntry index) = codes "journal entry " ++ decimal index
journal_fault_text journal.Memory = codes "out of memory"

-- a line that says why a command did nothing
unfoldable pub error_line : List ℕ → List ℕ
error_line text = line (codes "erim: " ++ text)
