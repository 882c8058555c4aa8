-- `bench_write_delta` promises what `code::write_delta` does. Assumes nothing.
use Rattle.bench.proofs.bench_write_delta.Goals as goal

pub returns : goal.returns
returns c = c.write_delta.ensures
