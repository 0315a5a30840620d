-- `tables::bucket::bucket_length` meets its contract: a bucket of more than one key shares what its first and last key
-- share. Assumes nothing.
use native.Mathlib.Omega.{arith}
use Rattle.tables.proofs.Bucketing.{length_read}
use Rattle.tables.proofs.bucket.bucket_length.Goals as goal

pub returns : goal.returns
returns c =
    let r = c.requires in
    length_read _ r.0 _ _ r.1.some r.2 c.bucket_end-last.ensures.0 (λ one. omega arith) c.shared_bits.ensures
