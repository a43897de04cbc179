use Rattle.st_laws_bounds.proofs.generated_events_have_lines.Goals as goal

pub returns : goal.returns
returns c n seed l = c.events_have_lines.ensures.events n seed (c.runs_are_few.ensures n seed l)
