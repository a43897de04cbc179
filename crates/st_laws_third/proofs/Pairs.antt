-- A step of a client of the third form keeps each association, and what is beside it.
use Rattle.st_lemmas.proofs.Words
use Words.{◌≡◌, ℕ, suc, ◌+◌, ◌==◌, Bool, true, false, List, [], ◌∷◌, length, length-map, refl, sym, ◌∙◌, arith, if◌then◌else◌}
use Words.{Body, ClientInput, Header, ServerId, Stamp}
use Words.answers
use Words.Client as plain
use Words.ClientState.{Association, ClientState}
use Words.Numbers.{length_more}
use Rattle.st_rules.specs.declared.client.ClientInput.TheVariants as inputs
use Rattle.st_third.specs.declared.event.ThirdInput.{ThirdInput}
use Rattle.st_third.specs.declared.event.ThirdInput.TheVariants as third
use Rattle.st_third.specs.declared.limits.Limits.{Limits}
use Rattle.st_third.specs.Client as client
use Rattle.st_third.specs.Leave.{lose}
use Rattle.st_third.specs.Limits.{limited_association}
use Rattle.st_third.specs.Replies.{receive, receive_at}
use Rattle.st_third.specs.State.{Beside, ThirdClient, ThirdClientTurn, ThirdTurn, at_each, at_these}
use Rattle.st_third.specs.State.{beside_of, enter, fresh_beside_client, leave, only_at, third_turn}
use Rattle.st_laws_third.specs.Pairs.{ClientsStayPaired, IsPaired, StaysPaired}

-- a turn's client stays paired
abbrev pub Stays : ThirdClientTurn → ThirdClientTurn → Type 0
Stays t u = IsPaired t.client → StaysPaired t.client.plain u.client

still : (t : ThirdClientTurn) → Stays t t
still t h = record { paired = h; whole = refl }

in_turn : (t u v : ThirdClientTurn) → Stays t u → Stays u v → Stays t v
in_turn t u v f g h = let a = f h in let b = g a.paired in record { paired = b.paired; whole = b.whole ∙ a.whole }

either : (t u v : ThirdClientTurn) (b : Bool) → Stays t u → Stays t v → Stays t (if b then u else v)
either t u v true f g = f
either t u v false f g = g

-- At each server in turn.

-- as many associations as these, and as many beside them
record Has_more (n : ℕ) (t u : ThirdClientTurn) : Type 0 where
  associations : length u.client.plain.associations ≡ length t.client.plain.associations + n
  besides : length u.client.beside.besides ≡ length t.client.beside.besides + n

these_more : (m : Limits) (rule : ThirdTurn → ThirdTurn) (as_ : List Association) (bs : List Beside) (t : ThirdClientTurn) → length bs ≡ length as_ →
    Has_more (length as_) t (at_these m rule as_ bs t)
unfolding at_these
these_more m rule [] bs t e = record { associations = omega arith; besides = omega arith }
these_more m rule (a ∷ as_) [] t e = absurd (nothing (length as_) e)
  where
    nothing : (n : ℕ) → 0 ≡ suc n → ⊥
    nothing n e = cc
these_more m rule (a ∷ as_) (b ∷ bs) t e =
    let r : ThirdTurn = rule (enter m t a b) in
    let h = these_more m rule as_ bs (leave t r) (omega (arith, e)) in
    let p = length_more t.client.plain.associations r.plain.here in
    let q = length_more t.client.beside.besides r.beside in
    let i = h.associations in
    let j = h.besides in
    record { associations = omega (arith, i, p); besides = omega (arith, j, q) }

none_and : (n : ℕ) → 0 + n ≡ n
none_and n = omega arith

pub each_stays : (m : Limits) (rule : ThirdTurn → ThirdTurn) (t : ThirdClientTurn) → Stays t (at_each m rule t)
unfolding at_each
each_stays m rule t h =
    let z = these_more m rule t.client.plain.associations t.client.beside.besides _ h in
    record { paired = z.besides ∙ sym z.associations; whole = z.associations ∙ none_and (length t.client.plain.associations) }

-- Inputs.

ask_stays : (m : Limits) (t : ThirdClientTurn) (op : ℕ) (s : ServerId) (rule : ThirdTurn → ThirdTurn) → Stays t (client.ask_by m t op s rule)
unfolding client.ask_by client.ask_at
ask_stays m t op s rule =
    either t (client.answered_at_once t op answers.OpsFull) _ (client.is_full m t.client) (still t)
    (either t (at_each m (only_at s rule) t) (client.answered_at_once t op answers.NoFile) (plain.is_configured t.client.plain s)
    (each_stays m (only_at s rule) t) (still t))

receive_stays : (m : Limits) (t : ThirdClientTurn) (now : Stamp) (h : Header) (body : Body) → Stays t (receive m t now h body)
unfolding receive
receive_stays m t now h body =
    either t (at_each m (receive_at now h body) t) t (h.to == t.client.plain.id.0) (each_stays m (receive_at now h body) t) (still t)

plain_stays : (m : Limits) (t : ThirdClientTurn) (now : Stamp) (input : ClientInput) → Stays t (client.take_plain m t now input)
unfolding client.take_plain client.app client.done
plain_stays m t now inputs.Tick = still t
plain_stays m t now (inputs.App op ask) = ask_stays m t op _ _
plain_stays m t now (inputs.Control message) = receive_stays m t now message.header message.body
plain_stays m t now (inputs.Done number result) = each_stays m (client.finish number result) t

pub input_stays : (m : Limits) (t : ThirdClientTurn) (now : Stamp) (input : ThirdInput) → Stays t (client.take_input m t now input)
unfolding client.take_input client.app_leave
input_stays m t now (third.Plain input) = plain_stays m t now input
input_stays m t now (third.Leave op s) = ask_stays m t op s _

step_stays : (m : Limits) (c : ThirdClient) (now : Stamp) (input : ThirdInput) → IsPaired c → StaysPaired c.plain (client.client_step m c now input).client
unfolding client.client_step client.losses client.work
step_stays m c now input h =
    let t : ThirdClientTurn = client.losses m (third_turn c []) now in
    let u : ThirdClientTurn = client.take_input m t now input in
    let v : ThirdClientTurn = client.work m u now input in
    in_turn (third_turn c []) t v (each_stays m (lose now) (third_turn c []))
    (in_turn t u v (input_stays m t now input) (each_stays m (client.third_passes now (client.is_tick input)) u)) h

-- Crashes and starts.

begun_paired : (m : Limits) (c d : ClientState) → length d.associations ≡ length c.associations → StaysPaired c (client.begun m d)
unfolding fresh_beside_client
begun_paired m c d e =
    let n = length-map d.associations (limited_association m) in
    record { paired = length-map d.associations beside_of ∙ sym n; whole = n ∙ e }

pub clients_stay_paired : ClientsStayPaired
unfolding client.crash client.start plain.crash plain.start
clients_stay_paired =
    record {
      steps = step_stays;
      crashes = λ m c. begun_paired m c (plain.crash c) (length-map c.associations plain.crashed_association);
      starts = λ m c. begun_paired m c (plain.start c) (length-map c.associations plain.started_association);
    }
