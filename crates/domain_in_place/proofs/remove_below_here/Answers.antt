-- Nothing of `domain_in_place::remove_below_here` is left to answer: it is proved as it stands. `Instance` proves it again, as an instance of `in_place`'s law.
mod Instance
