-- What decoding and encoding rest on: the grammar of instructions, and how they are written.
pub mod Parts
pub mod Operand
pub mod Cursor
pub mod OpcodeTable
pub mod OpcodeMap
pub mod Forms
pub mod Grammar
pub mod Decodes
pub mod Decoding
pub mod WellFormed
pub mod Canonical
pub mod Notation
pub mod Disasm
