-- `own_words` says whether the capacity is in range and the words are enough; where not, the pool is not sound.
-- Else the pool's own words are lent to `audit`, whose answer is that of the whole pool: `tested_sound`, `tested_unsound`.
use Rattle.pool.specs.Ipv4.{ipv4}
use Rattle.pool.proofs.Ipv4.{laid4}
use Rattle.verdict.proofs.Lent.{tested_sound, tested_unsound}
use Rattle.verdict.proofs.tested.Goals as goal

pub returns-then-audit : goal.returns-then-audit
returns-then-audit c =
    tested_sound ipv4 laid4 c.args.pool.now _ _ _ c.in_ok-capacity.ensures c.size_of-own.ensures c.audit.ensures c.if-audit.true

pub returns-else-audit : goal.returns-else-audit
returns-else-audit c =
    tested_unsound ipv4 laid4 c.args.pool.now _ _ _ c.in_ok-capacity.ensures c.size_of-own.ensures c.audit.ensures c.if-audit.false
