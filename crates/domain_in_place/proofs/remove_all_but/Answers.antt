-- Nothing of `domain_in_place::remove_all_but` is left to answer: it is proved as it stands. `Instance` proves it again, as an instance of `in_place`'s law.
mod Instance
