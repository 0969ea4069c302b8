-- The writes are those that the put begins with.
use Rattle.disk_files.proofs.putting.put.Goals as goal

pub store_stages-requires : goal.store_stages-requires
store_stages-requires g c = c.in_ok-committer.ensures.writes
