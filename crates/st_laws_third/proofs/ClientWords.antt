-- A client of the third form sends no demand.
use Rattle.st_lemmas.proofs.Words
use Words.{ℕ, Bool, Stamp, Config, refl}
use Words.Client as plain
use Words.ClientState.{Association, Turn}
use Words.Lists.{Has}
use Rattle.st_laws_steps.specs.Client.Losses.{Ends, Unknown, Passes, Hardens, Fails, Fit}
use Rattle.st_third.specs.declared.event.ThirdInput.{ThirdInput}
use Rattle.st_third.specs.declared.limits.Limits.{Limits}
use Rattle.st_third.specs.declared.output.ThirdOutput.{ThirdOutput}
use Rattle.st_third.specs.declared.output.ThirdOutput.TheVariants as says
use Rattle.st_third.specs.Client.{client_step}
use Rattle.st_third.specs.State.{Beside, ThirdClient}
use Rattle.st_laws_third.specs.Pairs.{IsPaired}
use Rattle.st_laws_third.specs.Sessions.{AllFine, SessionFine, WordFine}
use Rattle.st_laws_third.proofs.Facts.{WordRight, change_third, said_fine}
use Rattle.st_laws_third.proofs.Folds.{Keeps, both_of, client_holds}

-- the outstanding request isn't a demand
abbrev AsksFine : Association → Beside → Type 0
AsksFine a b = SessionFine a.session

word_fine : (t : Turn) (o : ThirdOutput) → WordRight t o → SessionFine t.here.session → WordFine o
word_fine t (says.Plain o) r f = said_fine t o r f
word_fine t (says.Left op) r f = tt
word_fine t (says.Unsynced op ino) r f = tt
word_fine t (says.Ended s life end) r f = tt

ends_fine : (t : Turn) (b : Beside) (number : ℕ) (ok : Bool) (v : Turn) → Ends number ok t v → AsksFine t.here b → AsksFine v.here b
unfolding plain.hardened
ends_fine t b number ok _ Unknown f = f
ends_fine t b number ok _ (Passes x e o) f = f
ends_fine t b number ok _ (Hardens x v e o w q) f = f
ends_fine t b number ok _ (Fails x v e o w q) f = f

asks_fine : (k : Config) (m : Limits) (now : Stamp) → Keeps k m now AsksFine WordFine
asks_fine k m now =
    record {
      change = λ t u c e l i f. (change_third now t u c).asks f;
      word = λ t f o r. word_fine t.plain o r f;
      ends = ends_fine;
      noted = λ t b f. f;
      emptied = λ a. tt;
      lost = λ s life. tt;
      ended = λ s life end. tt;
      at_once = λ op a. tt;
    }

pub client_fine : (m : Limits) (c : ThirdClient) (now : Stamp) (input : ThirdInput) → IsPaired c → ((a : Association) → Has a c.plain.associations → Fit a) →
    ((a : Association) → Has a c.plain.associations → SessionFine a.session) → AllFine (client_step m c now input).out
client_fine m c now input p f s =
    (client_holds c.plain.config m now AsksFine WordFine (asks_fine c.plain.config m now) c input refl
    (both_of AsksFine c.plain.associations c.beside.besides p f (λ a b h i. s a h))).1
