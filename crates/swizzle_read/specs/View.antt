-- What the machine's read port logs.
use Rattle.std.specs.Prelude.{ℕ, List}
use Rattle.rules.specs.Value.{Value}
use Rattle.rules.specs.Log.{Trace}
use Rattle.swizzle_read.specs.declared.ReadPort.{ReadPort}
use Rattle.swizzle_read.specs.Port.{read_trace, read_of}

abbrev pub trace_of : ReadPort → List ℕ → Trace Value
trace_of p scratch =
    read_trace p.pieces p.voids p.flip_flop p.mux.now p.entries.now p.output.now p.width scratch

abbrev pub port_trace : ReadPort → List ℕ → Trace Value
port_trace p scratch =
    read_of p.pieces p.voids p.flip_flop p.mux.now p.entries.now p.output.now p.width scratch
