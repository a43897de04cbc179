use Rattle.st_laws_bounds.proofs.Generated.ReadBack.{text_is_replayed, text_is_reported}
use Rattle.st_laws_bounds.proofs.texts_are_replayed.Goals as goal

pub returns-clause-end : goal.returns-clause-end
returns-clause-end c =
    text_is_replayed c.events_have_lines.ensures.head c.generated_events_have_lines.ensures c.schedules_are_long_enough.ensures.length c.runs_come_to_the_end.ensures.end

pub returns-clause-report : goal.returns-clause-report
returns-clause-report c =
    text_is_reported c.events_have_lines.ensures.head c.generated_events_have_lines.ensures c.schedules_are_long_enough.ensures.length c.reports_are_those_of_runs.ensures
