-- What the calls of a shared file return is what their rules answer, unless memory ran out.
use Rattle.std.proofs.Common.{◌≡◌, ℕ, Bool, false, List, [], ◌∷◌, ◌++◌, Some, None, refl, sym, ap, ◌∙◌, subst}
use Rattle.std.specs.Prelude.{Result, Ok, Err, OnOk, length}
use Rattle.st_base.specs.declared.ids.ClientId.{ClientId}
use Rattle.st_shared.specs.declared.refusal.SharedRefusal.{SharedRefusal}
use Rattle.st_shared.specs.declared.refusal.SharedRefusal.TheVariants.{Memory}
use Rattle.st_shared.specs.Calls.{Does, DoesOrLacks, Numbers, state_after}
use Rattle.st_shared.specs.History.{Call, answer_of, rule_of, told_done, told_number}
use Rattle.st_shared.specs.Shared.{Shared, Answer, Number}
use Rattle.st_script_shared.specs.declared.shared_event.ClientAct.{ClientAct}
use Rattle.st_script_shared.specs.declared.shared_event.ClientAct.TheVariants as acts
use Rattle.st_script_shared.specs.declared.shared_event.SharedEvent.{SharedEvent}
use Rattle.st_script.specs.Scripts.{answer_lines}
use Rattle.st_script.proofs.Outcomes.{always}
use Rattle.st_script_shared.specs.SharedCalls.{Performs, done_answer, lacks, left_by, number_answer, printed_on}
use Rattle.st_script_shared.specs.SharedScripts.{SharedState, absent, act_call, answer_text, answers, answers_on, call_of, client_of, last, last_text, next, no_client, printed, traced_on}

pub does_performs : (old new : Shared) (call : Call) (r : Result (Unit {0}) SharedRefusal) → Does old new r (rule_of old call) →
    answer_of call (rule_of old call) ≡ told_done (rule_of old call) → Performs old new call (lacks r) (done_answer r)
does_performs old new call (Ok u) d h l = (sym (ap (state_after old) d), sym (h ∙ ap told_done d))
does_performs old new call (Err r) d h l = (d.1 ∙ sym (ap (state_after old) d.0), sym (h ∙ ap told_done d.0))

pub lacks_performs : (old new : Shared) (call : Call) (r : Result (Unit {0}) SharedRefusal) → DoesOrLacks old new r (rule_of old call) →
    answer_of call (rule_of old call) ≡ told_done (rule_of old call) → Performs old new call (lacks r) (done_answer r)
lacks_performs old new call (Ok u) d h l = (sym (ap (state_after old) d), sym (h ∙ ap told_done d))
lacks_performs old new call (Err Memory) d h l = cc
lacks_performs old new call (Err r) d h l = (d.1 ∙ sym (ap (state_after old) d.0), sym (h ∙ ap told_done d.0))

pub numbers_performs : (old new : Shared) (call : Call) (r : Result ℕ SharedRefusal) → Numbers old new r (rule_of old call) →
    answer_of call (rule_of old call) ≡ told_number (rule_of old call) → Performs old new call (lacks r) (number_answer r)
numbers_performs old new call (Ok n) d h l = (sym (ap (state_after old) d.0), ap Number d.1 ∙ sym (h ∙ ap told_number d.0))
numbers_performs old new call (Err Memory) d h l = cc
numbers_performs old new call (Err r) d h l = (d.1 ∙ sym (ap (state_after old) d.0), sym (h ∙ ap told_number d.0))

-- what is printed about what a client does that isn't a command
pub act_printed : (act : ClientAct) (c : ClientId) (a : Answer) → printed (act_call act c) a ≡ (answer_text a ∷ [])
act_printed acts.Enter c a = refl
act_printed acts.Leave c a = refl
act_printed acts.Lock c a = refl
act_printed acts.Unlock c a = refl
act_printed acts.Crash c a = refl
act_printed acts.Expire c a = refl

-- a call's line, and what it left
pub played_text : {T : Type 0} (r : Result (Unit {0}) T) (old new : Shared) (call : Call) (lacking : Bool) (a : Answer) (before now : List ℕ) (number : ℕ) →
    Performs old new call lacking a → lacking ≡ false → OnOk r (now ≡ before ++ answer_lines number (printed call a)) → OnOk r (now ≡ before ++ answer_lines number (printed_on old call))
played_text (Ok u) old new call lacking a before now number p l e = e ∙ ap (λ b. before ++ answer_lines number (printed call b)) (p l).1
played_text (Err x) old new call lacking a before now number p l e = tt

pub played_stands : {T : Type 0} (r : Result (Unit {0}) T) (old new : Shared) (call : Call) (lacking : Bool) (a : Answer) →
    Performs old new call lacking a → lacking ≡ false → OnOk r (new ≡ left_by old call)
played_stands (Ok u) old new call lacking a p l = (p l).0
played_stands (Err x) old new call lacking a p l = tt

-- an event of a client that is there
pub answers_there : (s : SharedState) (e : SharedEvent) (clients : ℕ) (file : Shared) → s.clients ≡ clients → s.traced.state ≡ file → absent clients (client_of e) ≡ None →
    printed_on file (call_of e) ≡ answers s e
unfolding answers
answers_there s e clients file c f a =
    sym (ap (λ o. answers_on s.traced (call_of e) o) (ap (λ n. absent n (client_of e)) c ∙ a) ∙ ap (λ t. printed_on t (call_of e)) f)

pub next_there : (s : SharedState) (e : SharedEvent) (clients : ℕ) (file : Shared) → s.clients ≡ clients → s.traced.state ≡ file → absent clients (client_of e) ≡ None →
    (next s e).traced.state ≡ left_by file (call_of e)
unfolding next
next_there s e clients file c f a =
    ap (λ o. (traced_on s.traced (call_of e) o).state) (ap (λ n. absent n (client_of e)) c ∙ a) ∙ ap (λ t. left_by t (call_of e)) f

-- an event of a client that is not there
pub answers_absent : (s : SharedState) (e : SharedEvent) (clients : ℕ) (d : ClientId) → s.clients ≡ clients → absent clients (client_of e) ≡ Some d →
    (no_client d ∷ []) ≡ answers s e
unfolding answers
answers_absent s e clients d c a = sym (ap (λ o. answers_on s.traced (call_of e) o) (ap (λ n. absent n (client_of e)) c ∙ a))

pub next_absent : (s : SharedState) (e : SharedEvent) (clients : ℕ) (d : ClientId) → s.clients ≡ clients → absent clients (client_of e) ≡ Some d →
    (next s e).traced.state ≡ s.traced.state
unfolding next
next_absent s e clients d c a = ap (λ o. (traced_on s.traced (call_of e) o).state) (ap (λ n. absent n (client_of e)) c ∙ a)

pub next_clients : (s : SharedState) (e : SharedEvent) → (next s e).clients ≡ s.clients
unfolding next
next_clients s e = refl

-- An event, in the state that a script stands for: its answers, and what it leaves.

pub absent_text : {A E : Type 0} (r : Result A E) (s : SharedState) (e : SharedEvent) (clients : ℕ) (d : ClientId) (before now : List ℕ) (number : ℕ) →
    s.clients ≡ clients → Some d ≡ absent clients (client_of e) → OnOk r (now ≡ before ++ answer_lines number (no_client d ∷ [])) →
    OnOk r (now ≡ before ++ answer_lines number (answers s e))
absent_text r s e clients d before now number c a h =
    subst (λ ts. OnOk r (now ≡ before ++ answer_lines number ts)) (answers_absent s e clients d c (sym a)) h

pub absent_stands : {A E : Type 0} (r : Result A E) (s : SharedState) (e : SharedEvent) (clients : ℕ) (file : Shared) (d : ClientId) →
    s.clients ≡ clients → s.traced.state ≡ file → Some d ≡ absent clients (client_of e) →
    OnOk r (((next s e).clients ≡ clients) × ((next s e).traced.state ≡ file))
absent_stands r s e clients file d c f a = always r _ (next_clients s e ∙ c, next_absent s e clients d c (sym a) ∙ f)

pub there_text : {A E : Type 0} (r : Result A E) (s : SharedState) (e : SharedEvent) (clients : ℕ) (file : Shared) (before now : List ℕ) (number : ℕ) →
    s.clients ≡ clients → s.traced.state ≡ file → None ≡ absent clients (client_of e) → OnOk r (now ≡ before ++ answer_lines number (printed_on file (call_of e))) →
    OnOk r (now ≡ before ++ answer_lines number (answers s e))
there_text r s e clients file before now number c f a h =
    subst (λ ts. OnOk r (now ≡ before ++ answer_lines number ts)) (answers_there s e clients file c f (sym a)) h

pub there_stands : {A E : Type 0} (r : Result A E) (s : SharedState) (e : SharedEvent) (clients : ℕ) (file new : Shared) →
    s.clients ≡ clients → s.traced.state ≡ file → None ≡ absent clients (client_of e) → OnOk r (new ≡ left_by file (call_of e)) →
    OnOk r (((next s e).clients ≡ clients) × ((next s e).traced.state ≡ new))
there_stands (Err x) s e clients file new c f a h = tt
there_stands (Ok x) s e clients file new c f a h = (next_clients s e ∙ c, next_there s e clients file c f (sym a) ∙ sym h)

-- the last line
pub last_written : {A E : Type 0} (r : Result A E) (s : SharedState) (file : Shared) (before now : List ℕ) (count commands : ℕ) →
    s.traced.state ≡ file → commands ≡ length file.disk.commands → OnOk r (now ≡ before ++ last_text count commands) → OnOk r (now ≡ before ++ last count s)
unfolding last
last_written r s file before now count commands f k h =
    subst (λ n. OnOk r (now ≡ before ++ last_text count n)) (k ∙ sym (ap (λ t. length t.disk.commands) f)) h
