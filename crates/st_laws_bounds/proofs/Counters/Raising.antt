-- A step of a client raises no counter by more than 2^15.
use Rattle.st_lemmas.proofs.Words
use Words.{◌≡◌, ℕ, ◌+◌, ◌^◌, [], sym, subst, arith, length-map}
use Words.Client as cl
use Words.ClientState.{Association, ClientTurn}
use Words.Extents.{numbers}
use Words.Lists.{Has}
use Words.Tables.{has_map}
use Words.Lengths.{numbers_length}
use Rattle.st_laws_bounds.specs.Counters.Rises.{FreshClientsBegin, IsWithin, IsWithinAt, StepsRaiseLittle}
use Rattle.st_laws_bounds.proofs.Counters.Stepping.{AllLow, LowAt, step_low}
use Rattle.st_laws_bounds.proofs.Counters.Weights.{asks_more, changes_rise, commands_rise, losses_rise, of_message, weigh}
use Rattle.st_laws_bounds.proofs.FewMessages.Stepping.{Steps, step_costs}

begin_at : (most : ℕ) (a : Association) → IsWithinAt most a → LowAt most most most [] a
begin_at most a h =
    let v = h.versions in let l = h.lives in
    record { versions = omega (arith, v); lives = omega (arith, l); requests = asks_more most (1 + most + 0) a.session (omega arith) h.requests }

pub steps_raise : StepsRaiseLittle
steps_raise s now input most h = record {
  operations = x.few.ops;
  servers = x.few.many;
  commands = (let c = low.commands in let r = commands_rise u.out in let e = x.rises in omega (arith, c, r, e));
  each = λ a i.
      let l = low.each a i in
      let v = l.versions in let e = l.lives in let c = changes_rise u.out in let d = losses_rise u.out in let r = x.rises in let m = x.messages in
      record {
        dirty = x.few.each a i;
        versions = omega (arith, v, c, r);
        lives = omega (arith, e, d, r);
        requests = asks_more (1 + most + weigh of_message u.out) (most + 2 ^ 15) a.session (omega (arith, m)) l.requests;
      };
}
  where
    u : ClientTurn
    u = cl.client_step s now input

    x : Steps u
    x = step_costs s now input (record { ops = h.operations; many = h.servers; each = λ a i. (h.each a i).dirty })

    low : AllLow most most most most u
    low = step_low most most most most s now input (record { commands = (let c = h.commands in omega (arith, c)); each = λ a i. begin_at most a (h.each a i) })

pub fresh_within : FreshClientsBegin
unfolding cl.fresh_client
fresh_within id config servers few = record {
  operations = omega arith;
  servers = (let a = length-map (numbers 1 servers) cl.fresh_association in let b = numbers_length 1 servers in omega (arith, a, b, few));
  commands = omega arith;
  each = λ a i. one a (has_map cl.fresh_association (numbers 1 servers) a i);
}
  where
    one : (a : Association) → (x : ℕ) × Has x (numbers 1 servers) × (a ≡ cl.fresh_association x) → IsWithinAt 1 a
    one a (x, i, q) = subst (IsWithinAt 1) (sym q) (record { dirty = omega arith; versions = omega arith; lives = omega arith; requests = tt })
