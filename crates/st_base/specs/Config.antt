-- The settings of a world, and what is wrong with them.
use Rattle.std.specs.Prelude.{nat_lt, nat_le, ◌^◌, Bool, ◌&&◌, if◌then◌else◌, Result, Ok, Err}
use Rattle.st_base.specs.declared.config.Config.{Config}
use Rattle.st_base.specs.declared.config.ConfigRefusal.{ConfigRefusal}
use Rattle.st_base.specs.declared.config.ConfigRefusal.TheVariants.{Order, Rate, TooLong, Demand, Grain}

-- 0 < renew < quiesce < flush < lease
abbrev pub phases_rise : Config → Bool
phases_rise c = nat_lt 0 c.renew && (nat_lt c.renew c.quiesce && (nat_lt c.quiesce c.flush && nat_lt c.flush c.lease))

-- den is positive and num / den is a rate of at least 1, with num at most 1,048,576
abbrev pub rate_is_sound : Config → Bool
rate_is_sound c = nat_lt 0 c.den && (nat_le c.den c.num && nat_le c.num 1048576)

abbrev pub lease_is_short : Config → Bool
lease_is_short c = nat_le c.lease (2 ^ 40)

-- 0 < retry ≤ demand ≤ lease
abbrev pub demands_fit : Config → Bool
demands_fit c = nat_lt 0 c.retry && (nat_le c.retry c.demand && nat_le c.demand c.lease)

abbrev pub grain_fits : Config → Bool
grain_fits c = nat_le c.grain c.lease

-- the first refusal that applies, in this order
abbrev pub check_grain : Config → Result Unit ConfigRefusal
check_grain c = if grain_fits c then Ok tt else Err Grain

abbrev pub check_demand : Config → Result Unit ConfigRefusal
check_demand c = if demands_fit c then check_grain c else Err Demand

abbrev pub check_length : Config → Result Unit ConfigRefusal
check_length c = if lease_is_short c then check_demand c else Err TooLong

abbrev pub check_rate : Config → Result Unit ConfigRefusal
check_rate c = if rate_is_sound c then check_length c else Err Rate

abbrev pub check : Config → Result Unit ConfigRefusal
check c = if phases_rise c then check_rate c else Err Order
