use Rattle.std.proofs.Common.{vec_len}
use Rattle.publish_lock.proofs.lock.Locked.+audit_all.Given as goal

abbrev pub decreases-audit_all : goal.decreases-audit_all
decreases-audit_all g l = vec_len l.seats
