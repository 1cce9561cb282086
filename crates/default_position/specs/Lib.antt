pub mod DefaultPosition
