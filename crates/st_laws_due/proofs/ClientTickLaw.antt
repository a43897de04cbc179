-- A tick at a client does nothing before the first moment of its spans, and something at it.
use Rattle.st_lemmas.proofs.Words
use Words.{◌≡◌, ◌≢◌, ◌≤◌, true, false, [], ap, sym, ◌∙◌, arith, list_any, Stamp}
use Words.inputs.{Tick}
use Words.Client.{client_step}
use Words.ClientState.{ClientState, client_turn}
use Rattle.st_due.specs.Moments.{is_due}
use Rattle.st_client_due.specs.Spans.{is_within}
use Rattle.st_client_due.specs.ClientDue.{ClientTicksAreDue, busy_during, client_due, reading}
use Rattle.st_laws_due.proofs.SpanMoments.{first_is, none_before}
use Rattle.st_laws_due.proofs.ClientTicks.{all_demanded, all_said, tick_does}
use Rattle.st_laws_due.proofs.ClientSpans.{busy_is}

tick_before : (s : ClientState) (from now : Stamp) → from.0 ≤ now.0 → is_due (client_due s from) now ≡ false → client_step s now Tick ≡ client_turn s []
tick_before s from now l e = (tick_does s now).same (sym (busy_is s now) ∙ none_before from.0 now (busy_during s) l e)

tick_within : (s : ClientState) (now : Stamp) → list_any (is_within now.0) (busy_during s) ≡ true → client_step s now Tick ≢ client_turn s []
tick_within s now e f =
    let more = (tick_does s now).more (sym (busy_is s now) ∙ e) in
    let a = ap all_said f in
    let b = ap all_demanded f in
    omega (arith, more, a, b)

pub client_tick_law : ClientTicksAreDue
client_tick_law s from = record {
  before = tick_before s from;
  first = λ m e.
      let r = first_is from.0 m (busy_during s) e in
      (r.0, tick_within s (reading m) r.1);
}
