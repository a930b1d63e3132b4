-- What is said of a walk: nothing but what is said of any caller by code.
use Rattle.act_drive.specs.Sessions.{SessionView}

abbrev pub any_walk : {W : Type 0} → W → SessionView → SessionView → Type 0
any_walk walker before later = Unit {0}
