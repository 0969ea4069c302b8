use Rattle.pool.proofs.crewing.after_idle_turn.Goals as goal

pub returns : goal.returns
returns g c = (c.is_over.result, c.is_over.ensures.asks, c.next_after.ensures)
