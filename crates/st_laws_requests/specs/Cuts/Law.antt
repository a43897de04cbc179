-- Answers are logged, and names say what is answered of them, over whole runs.
use Rattle.std.specs.Prelude.{◌≡◌, ℕ, ◌+◌, true, List, [], Option, Some, None}
use Rattle.std.specs.List.{list_all}
use Rattle.st_base.specs.declared.config.Config.{Config}
use Rattle.st_base.specs.declared.ids.ClientId.{ClientId}
use Rattle.st_messages.specs.declared.answer.AppAnswer.{AppAnswer}
use Rattle.st_messages.specs.declared.answer.AppAnswer.TheVariants as answers
use Rattle.st_messages.specs.declared.ask.Ask.{Ask}
use Rattle.st_messages.specs.declared.event.Event.{Event}
use Rattle.st_rules.specs.declared.observation.Observation.TheVariants as seen
use Rattle.st_rules.specs.World.{fresh_world}
use Rattle.st_rules.specs.History.{traced}
use Rattle.st_rules.specs.Safety.{AnswersAreLogged, IsHead, Promise, Step, Throughout, ask_of, is_event, steps, was_cut}
use Rattle.st_lemmas.specs.Lists.{Has}
use Rattle.st_promises.specs.NameAnswers.{is_of_names}
use Rattle.st_laws_requests.specs.Cuts.Cuts.{NameSaid}

-- The half of "answers are logged" that a server keeps: `cut` comes only after a cut of the file from the page that was asked.
abbrev pub CutsAreLogged : Promise
CutsAreLogged past x = (c : ClientId) (op : ℕ) → Has (seen.Answered c op answers.Cut) x.seen → was_cut past c op (ask_of past x c op) ≡ true

-- of what was asked
abbrev pub NameAskSaid : List Step → ClientId → ℕ → AppAnswer → Option Ask → Type 0
NameAskSaid past c op answer None = ⊥
NameAskSaid past c op answer (Some ask) = NameSaid past c op answer ask

-- Each answer of names is what the names of the asked server said to a request of the ask, at one event between the ask and the answer.
abbrev pub NamesAreSaid : Promise
NamesAreSaid past x =
    (c : ClientId) (op : ℕ) (answer : AppAnswer) → Has (seen.Answered c op answer) x.seen → is_of_names answer ≡ true →
    NameAskSaid past c op answer (ask_of past x c op)

-- In every run from the world of a head, over every list of events in their ranges, answers are logged at every step.
abbrev pub RunsLogAnswers : Type 0
RunsLogAnswers =
    (k : Config) (clients servers disks blocks form : ℕ) (es : List Event) → IsHead k clients servers disks blocks form →
    list_all (is_event (clients + servers)) es ≡ true →
    Throughout AnswersAreLogged [] (steps es (traced (fresh_world k clients servers disks blocks form)))
