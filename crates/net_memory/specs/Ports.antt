-- A port with its own nets and trits, and the code of a relation.
use Rattle.std.specs.Prelude.{[]}
use Rattle.rules.specs.Cell as rules
use Rattle.net_memory.specs.declared.MemoryPortRelation.{MemoryPortRelation}
use Rattle.net_memory.specs.declared.MemoryPortRelation.TheVariants.{Undefined, ReadBeforeWrite, Transparent}
use Rattle.net_memory.specs.declared.WritePort.{WritePort}
use Rattle.net_memory.specs.declared.ReadPort.{ReadPort}
use Rattle.net_memory.specs.View.{write_by, read_by}

abbrev pub code_of : MemoryPortRelation → rules.Relation
code_of Undefined = rules.Undefined
code_of ReadBeforeWrite = rules.ReadBeforeWrite
code_of Transparent = rules.Transparent

abbrev pub write_of : WritePort → rules.WritePort
write_of w = write_by w.port w.nets.now []

abbrev pub read_of : ReadPort → rules.ReadPort
read_of r = read_by r.port r.nets.now r.trits.now
