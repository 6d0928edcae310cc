-- The measure of `port_relations::clocks_differ`.
use lib.ListN.{length}
use Rattle.port_relations.proofs.+clocks_differ.Given as goal

abbrev pub decreases-clocks_differ : goal.decreases-clocks_differ
decreases-clocks_differ l = length l.ports.now
